-- How a window lies in its buffer.
use Rattle.std.specs.Prelude.{◌-◌, ◌*◌, ◌/◌, ◌≤◌, length, take}
use Rattle.lx_window.specs.Units.{IsUnit, IsWhole}
use Rattle.lx_window.specs.WindowView.{WindowView}
use Rattle.lx_window.specs.declared.windows.Window.TheInside.{Inside}

-- the units stand at the front of the buffer
abbrev pub view_of : Inside → WindowView
view_of window = record {
  unit = window.unit;
  base = window.base;
  start = window.start;
  limit = window.limit;
  bytes = take (window.unit * (window.limit - window.base)) window.buffer.now;
  size = length window.buffer.now / window.unit;
}

-- they fit, and so would each further unit up to the buffer's end
pub record LiesWell (window : Inside) : Type 0 where
  pub unit : IsUnit window.unit
  pub whole : IsWhole window.unit window.buffer.now
  pub begins : window.base ≤ window.start
  pub ends : window.start ≤ window.limit
  pub fits : window.unit * (window.limit - window.base) ≤ length window.buffer.now
  pub early : window.start ≤ 0x4000_0000_0000_0000
