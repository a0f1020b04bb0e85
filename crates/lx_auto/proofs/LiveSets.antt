-- What is live is the least set that is closed as it is; and what is live where a state is left.
use Rattle.lx_auto.specs.declared.automaton.Auto.{Auto}
use Rattle.lx_auto.specs.declared.automaton.Held.{Held}
use Rattle.lx_auto.specs.Live.{IsClosed, IsLive, by_accept, by_fallback, onward}
use Rattle.lx_auto.specs.Points.{Point, IsReached, goes_on, point_behind}

pub IsLive-closed : (auto : Auto) → IsClosed auto (IsLive auto)
IsLive-closed auto = record {
  accepts = λ point held accept value reached accepts has reads. by_accept point held accept value accepts has reads;
  falls_back = λ point held reached none has. by_fallback point held none has;
  edges = λ point held edge next reached has live reads. onward point held edge next has live reads;
}

-- each closed set has what is live
pub IsLive-needed : (auto : Auto) (Needed : Point → Held → Type 0) → IsClosed auto Needed → (point : Point) (held : Held)
    → IsReached auto point → IsLive auto point held → Needed point held
IsLive-needed auto Needed closed point held reached (by_accept _ _ accept value accepts has reads) =
    closed.accepts point held accept value reached accepts has reads
IsLive-needed auto Needed closed point held reached (by_fallback _ _ none has) = closed.falls_back point held reached none has
IsLive-needed auto Needed closed point held reached (onward _ _ edge next has live reads) =
    closed.edges point held edge next reached has
    (IsLive-needed auto Needed closed (point_behind auto point edge) next (goes_on point edge reached has) live) reads
