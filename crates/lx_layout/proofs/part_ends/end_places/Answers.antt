use Rattle.std.proofs.Common.{◌≡◌, ◌+◌, ap, ap₂, sym, ◌∙◌, arith, length, List}
use Rattle.std.proofs.lemmas.List.{length-map}
use Rattle.lx_auto.specs.declared.automaton.State.{State}
use Rattle.lx_layout.specs.Halting.{any_falls, ended_accepts, saved_accepts}
use Rattle.lx_layout.specs.LaidParts.{halting_at, restores_at, saved_at}
use Rattle.lx_layout.specs.SuppliedLayout.{sized}
use Rattle.lx_layout.specs.declared.accepts.First.{First}
use Rattle.lx_layout.proofs.Laying.FirstAccepts.{saved_accepts-length}
use Rattle.lx_layout.proofs.part_ends.end_places.Goals as goal

pub returns : goal.returns
returns c =
    let plans = c.args.plans.now in
    let halting = halting_at plans in
    let states = plans.input.auto.now.states in
    let saved = c.in_ok-saved.saved.list.items in
    let saved_is = c.in_ok-saved.ensures.accepts ∙ ap (λ (l : List State). saved_accepts halting l) c.as_slice-states.ensures in
    let count : length (saved_at plans) ≡ length saved = ap length (sym saved_is) ∙ length-map saved (λ (first : First). first.accept.now) in
    let few = saved_accepts-length halting states in
    let len : c.len.result ≡ length saved = c.len.ensures ∙ c.in_ok-saved.saved.list.ok.0 in
    let size = c.fallback_size.ensures ∙ ap (λ t. sized t 1) (c.any_falls.ensures ∙ ap (λ (l : List State). any_falls halting 0 l) c.as_slice-states.ensures) in
    let restores : c.in_ok-restores.restores ≡ restores_at plans = c.in_ok-restores.ensures ∙ ap₂ (λ a b. a + b) c.in_ok-fall.ensures size in
    record {
      plans = c.requires;
      ended = c.in_ok-ended.ensures.accepts ∙ ap (λ (l : List State). ended_accepts halting l) c.as_slice-states.ensures;
      ended_places = c.in_ok-ended.ensures.indexed;
      saved = saved_is;
      saved_places = c.in_ok-saved.ensures.indexed;
      few_saved = omega (arith, count, few, c.requires.formed.few);
      fall = c.in_ok-fall.ensures;
      restores = restores;
      rules = c.in_ok-rules.ensures ∙ ap₂ (λ a b. a + b) restores (len ∙ sym count);
    }
