-- From partition to partition, until one is refined no more.
use Rattle.std.proofs.Common.{◌≡◌, ◌⊎◌, inl, inr, ℕ, ◌<◌, ◌≤◌, Bool, true, false, List, [], ◌∷◌, length, get_or, None, sym, ap, ◌∙◌, subst, arith}
use Rattle.std.proofs.lemmas.Bool.{cases_lt}
use Rattle.std.proofs.lemmas.List.{get_or_append_left, get_or_past, length-append}
use Rattle.std.proofs.lemmas.Option.{slice_get_within}
use Rattle.lx_auto.specs.declared.automaton.Auto.{Auto}
use Rattle.lx_auto.specs.Automaton.{IsAuto, state_of}
use Rattle.lx_auto.specs.MetStates.{AreMet, is_marked}
use Rattle.lx_auto.specs.Points.{IsMet, begins}
use Rattle.lx_min.specs.declared.looks.Look.{Look}
use Rattle.lx_min.specs.declared.partitions.Partition.{Partition}
use Rattle.lx_min.specs.Distances.{TellApart}
use Rattle.lx_min.specs.Joined.{class_in}
use Rattle.lx_min.specs.Looks.{AreLooks}
use Rattle.lx_min.specs.Merges.{AreAlike, AreClassesApart}
use Rattle.lx_min.specs.Partitions.{IsMinimal, seen_classes}
use Rattle.lx_min.specs.Rounds.{AreMarked, AreOwn, IsBegun, IsPartition, IsRefined}
use Rattle.lx_min.specs.Signatures.{HasSign, Sign}
use Rattle.lx_min.proofs.Refinements.{same-at}
use Rattle.lx_min.proofs.SignatureLists.{one-place}
use Rattle.lx_min.proofs.SignedStates.{alike-same, told-apart}

module _ (auto : Auto) (marks : List Bool) (met : AreMet auto marks) where
  pub met-within : (state : ℕ) → IsMet auto state → state < length auto.states
  met-within state is = at (cases_lt state (length marks))
    where
      at : (state < length marks) ⊎ (length marks ≤ state) → state < length auto.states
      at (inl lt) = omega (arith, met.fit)
      at (inr past) =
          let none : is_marked marks state ≡ false = get_or_past marks state false past in absurd (cc (none, met.complete state is))

  pub partition-own : (looks : List Look) (partition : Partition) → length looks ≡ length auto.states → IsPartition auto partition
      → AreOwn looks partition
  partition-own looks partition count is class lt =
      let chosen = is.chosen class lt in (
        omega (arith, count, met-within (get_or partition.chosen.items class 0) chosen.0),
        λ other also same. sym chosen.1 ∙ same ∙ (is.chosen other also).1,
      )

  pub partition-marked : (partition : Partition) → IsPartition auto partition → AreMarked marks partition.chosen.items
  partition-marked partition is class lt = met.complete (get_or partition.chosen.items class 0) (is.chosen class lt).0

  -- state 0 alone is chosen
  module _ (looks : List Look) (partition : Partition) (count : length looks ≡ length auto.states) (start : 0 < length auto.states)
      (one : partition.chosen.items ≡ 0 ∷ []) where
    first-at : (place : ℕ) → place < length partition.chosen.items → (place ≡ 0) × (get_or partition.chosen.items place 0 ≡ 0)
    first-at place lt =
        let here : place ≡ 0 = omega (arith, lt, ap length one) in
        (here, ap (λ k. get_or partition.chosen.items k 0) here ∙ ap (λ l. get_or l 0 0) one)

    pub first-own : AreOwn looks partition
    first-own place lt =
        let at = first-at place lt in
        (omega (arith, at.1, count, start), λ other also same. at.0 ∙ sym (first-at other also).0)

    pub first-marked : AreMarked marks partition.chosen.items
    first-marked place lt =
        subst (λ s. is_marked marks s ≡ true) (sym (first-at place lt).1) (met.complete 0 (None, begins))

    pub first-begun : TellApart auto partition.class.items → IsBegun auto partition
    first-begun tell = record {
      some = omega (arith, ap length one);
      first = ap (λ l. get_or l 0 0) one;
      apart = tell;
    }

pub partition-begun : (auto : Auto) (partition : Partition) → IsPartition auto partition → IsBegun auto partition
partition-begun auto partition is = record { some = is.some; first = is.first; apart = is.apart }

module _ (auto : Auto) (marks : List Bool) (looks : List Look) (is : IsAuto auto) (met : AreMet auto marks) (are : AreLooks auto looks)
    (given next : Partition) (begun : IsBegun auto given) (refined : IsRefined marks looks given next) where
  pub count-grows : length given.chosen.items ≤ length next.chosen.items
  count-grows = omega (arith, ap length refined.kept, length-append given.chosen.items refined.more)

  kept-at : (class : ℕ) → class < length given.chosen.items → get_or next.chosen.items class 0 ≡ get_or given.chosen.items class 0
  kept-at class lt = ap (λ l. get_or l class 0) refined.kept ∙ get_or_append_left given.chosen.items refined.more 0 class lt

  signed-met : (state : ℕ) → IsMet auto state
      → HasSign (class_in given.class.items) looks refined.signatures (class_in next.class.items state) state
  signed-met state is_met = refined.signed state (met.complete state is_met)

  within-next : (state : ℕ) → IsMet auto state → class_in next.class.items state < length next.chosen.items
  within-next state is_met =
      let has = signed-met state is_met in
      omega (arith, refined.chosen.count, slice_get_within refined.signatures (class_in next.class.items state) has.signature has.stands)

  apart-next : AreClassesApart auto (seen_classes next)
  apart-next state other is_met also_met differ =
      let has = signed-met state is_met in
      let also = signed-met other also_met in
      told-apart auto looks (class_in given.class.items) is are state other (met-within auto marks met state is_met)
      (met-within auto marks met other also_met) is_met also_met begun.apart has.look also.look has.looks_so also.looks_so
      (λ same. differ (refined.chosen.distinct (class_in next.class.items state) (class_in next.class.items other) has.signature
      also.signature has.stands also.stands (has.same ∙ same ∙ sym also.same)))

  pub next-partition : IsPartition auto next
  next-partition = record {
    fit = refined.fit ∙ are.count;
    some = omega (arith, begun.some, count-grows);
    first = kept-at 0 begun.some ∙ begun.first;
    within = within-next;
    chosen = λ class lt.
        let state = get_or next.chosen.items class 0 in
        let is_met = met.sound state (refined.marked class lt) in (
          is_met,
          one-place (class_in given.class.items) looks refined.signatures (class_in next.class.items state) class state
              refined.chosen.distinct (signed-met state is_met) (refined.chosen.signed class lt),
        );
    apart = apart-next;
  }

  -- no class was split
  module _ (partition : IsPartition auto given) (same : length next.chosen.items ≡ length given.chosen.items) where
    alike-chosen : (state : ℕ) → IsMet auto state
        → AreAlike (class_in given.class.items) (state_of auto.states state)
        (state_of auto.states (get_or given.chosen.items (class_in given.class.items state) 0))
    alike-chosen state is_met =
        let class = class_in given.class.items in
        let place = class_in next.class.items state in
        let lt : place < length next.chosen.items = within-next state is_met in
        let before : place < length given.chosen.items = omega arith in
        let other = get_or given.chosen.items place 0 in
        let has = signed-met state is_met in
        let also = subst (HasSign class looks refined.signatures place) (kept-at place before) (refined.chosen.signed place lt) in
        let chosen = partition.chosen place before in
        let signs = same-at class looks refined.signatures place state other has also in
        let here : place ≡ class state = sym chosen.1 ∙ sym (ap (λ (s : Sign). s.class) signs) in
        subst (λ k. AreAlike class (state_of auto.states state) (state_of auto.states (get_or given.chosen.items k 0))) here
        (alike-same auto looks class is are state other (met-within auto marks met state is_met) (met-within auto marks met other chosen.0)
        has.look also.look has.looks_so also.looks_so (ap (λ (s : Sign). s.accept) signs) (ap (λ (s : Sign). s.steps) signs))

    pub stable-minimal : IsMinimal auto given
    stable-minimal = record {
      fit = partition.fit;
      classes = record {
        start = ap (class_in given.class.items) (sym partition.first) ∙ (partition.chosen 0 partition.some).1;
        within = partition.within;
        alike = alike-chosen;
        chosen = partition.chosen;
        first = partition.first;
      };
      apart = partition.apart;
    }
