-- The search for the registers that are live.
use Rattle.std.proofs.Common.{◌≡◌, ℕ, ◌<◌, ◌≤◌, List, [], ◌∷◌, ◌++◌, map, length, get_or, sym, subst}
use Rattle.std.specs.List.{IsDistinct}
use Rattle.std.specs.Prelude.{Contains}
use Rattle.std.proofs.lemmas.List.Elements.{Contains-append_left, Contains-append_right}
use Rattle.lx_auto.specs.declared.automaton.Auto.{Auto}
use Rattle.lx_auto.specs.declared.automaton.Edge.{Edge}
use Rattle.lx_auto.specs.declared.ops.Op.{Op}
use Rattle.lx_auto.specs.Automaton.{IsHeld, state_of}
use Rattle.lx_auto.proofs.SameLists.{Contains-map}
use Rattle.lx_regs.specs.contracts.items.ItemEq.TheImpl.Laws.{laws-law}
use Rattle.lx_regs.specs.contracts.items.ItemPartialEq.TheImpl.{eq-value}
use Rattle.lx_regs.specs.declared.arrows.Arrow.{Arrow}
use Rattle.lx_regs.specs.declared.items.Item.{Item}
use Rattle.lx_regs.specs.declared.keys.Key.{Key}
use Rattle.lx_regs.specs.declared.keys.Key.TheVariants as key
use Rattle.lx_regs.specs.declared.reached.Pair.{Pair}
use Rattle.lx_regs.specs.Arrows.{AreArrows, arrows_to}
use Rattle.lx_regs.specs.Growth.{Grows, IsDueForSome, IsSearch}
use Rattle.lx_regs.specs.Items.{AreItems, IsBegun, IsItem, IsPrior, Passes, PassesBy}
use Rattle.lx_regs.specs.Keys.{held_of}
use Rattle.lx_regs.proofs.LiveRegisters.GrownLists.{grown-has, grows-alike, length-found, search-ends}
use Rattle.lx_regs.proofs.LiveRegisters.ItemTests.{TellsEqual-items}
use Rattle.lx_regs.proofs.LiveRegisters.Pairings.{Contains-numbers_below, Contains-pairings, numbers_below, pairings}

module _ (auto : Auto) (numbers : List ℕ) where
  -- ---- how many items there can be

  abbrev all_keys : List Key
  all_keys = map (λ reg. key.Reg reg) (numbers_below auto.regs) ++ map (λ mreg. key.MReg mreg) (numbers_below auto.mregs)

  all_keys-has : (k : Key) → IsHeld auto.regs auto.mregs (held_of k) → Contains all_keys k
  all_keys-has (key.Reg reg) is =
      Contains-append_left (map (λ reg. key.Reg reg) (numbers_below auto.regs)) (map (λ mreg. key.MReg mreg) (numbers_below auto.mregs))
      (key.Reg reg)
      (Contains-map (λ reg. key.Reg reg) (numbers_below auto.regs) reg (Contains-numbers_below auto.regs reg is))
  all_keys-has (key.MReg mreg) is =
      Contains-append_right (map (λ reg. key.Reg reg) (numbers_below auto.regs)) (map (λ mreg. key.MReg mreg) (numbers_below auto.mregs))
      (key.MReg mreg)
      (Contains-map (λ mreg. key.MReg mreg) (numbers_below auto.mregs) mreg (Contains-numbers_below auto.mregs mreg is))

  abbrev item_of : ℕ → ℕ × Key → Item
  item_of state rest = record { state = state; group = rest.0; key = rest.1 }

  abbrev with_key : ℕ → Key → ℕ × Key
  with_key group key = (group, key)

  abbrev pub all_items : List Item
  all_items = pairings item_of (numbers_below (length auto.states)) (pairings with_key (0 ∷ numbers) all_keys)

  all_items-has : (item : Item) → IsItem auto numbers item → Contains all_items item
  all_items-has item is =
      Contains-pairings item_of (numbers_below (length auto.states)) (pairings with_key (0 ∷ numbers) all_keys) item.state
      (item.group, item.key)
      (Contains-numbers_below (length auto.states) item.state is.state)
      (Contains-pairings with_key (0 ∷ numbers) all_keys item.group item.key is.group (all_keys-has item.key is.held))

  pub items-bounded : (items : List Item) → IsDistinct eq-value.it items → ((item : Item) → Contains items item → IsItem auto numbers item)
      → length items ≤ length all_items
  items-bounded items distinct right =
      length-found eq-value.it TellsEqual-items items all_items laws-law distinct (λ item has. all_items-has item (right item has))

  -- ---- by arrows

  module _ (pairs : List Pair) (lists : List (List Arrow)) (leaves : List (List Op)) (are : AreArrows auto (length auto.states) lists)
      (leave : (state : ℕ) → get_or leaves state [] ≡ (state_of auto.states state).leave)
      (within : (state : ℕ) (edge : Edge) → Contains (state_of auto.states state).edges edge → state < length auto.states) where
    pub grows-priors : (item : Item) (old new : List Item)
        → Grows (IsDueForSome (arrows_to lists item.state) (PassesBy numbers pairs leaves item)) old new
        → Grows (IsPrior auto numbers pairs item) old new
    grows-priors item old new grows =
        grows-alike (IsDueForSome (arrows_to lists item.state) (PassesBy numbers pairs leaves item)) (IsPrior auto numbers pairs item) old
        new to back grows
      where
        to : (prior : Item) → IsDueForSome (arrows_to lists item.state) (PassesBy numbers pairs leaves item) prior
            → IsPrior auto numbers pairs item prior
        to prior (arrow, there, passes) =
            let sound = (are.sound item.state arrow there).1 in
            let from : prior.state ≡ arrow.state = passes.state in (
              arrow.edge.now,
              subst (λ s. Contains (state_of auto.states s).edges arrow.edge.now) (sym from) sound.1,
              sound.2,
              subst (λ s. Passes numbers pairs item s (state_of auto.states s).leave arrow.edge.now.ops prior) (sym from)
                  (subst (λ l. Passes numbers pairs item arrow.state l arrow.edge.now.ops prior) (leave arrow.state)
                  (subst (λ o. Passes numbers pairs item arrow.state (get_or leaves arrow.state []) o prior) sound.3 passes)),
            )

        back : (prior : Item) → IsPrior auto numbers pairs item prior
            → IsDueForSome (arrows_to lists item.state) (PassesBy numbers pairs leaves item) prior
        back prior (edge, has, to, passes) =
            let (arrow, there, from, is) = are.complete prior.state edge (within prior.state edge has) has in
            let reader = (are.sound edge.to arrow there).1.3 in (
              arrow,
              subst (λ s. Contains (arrows_to lists s) arrow) to there,
              subst (λ o. Passes numbers pairs item arrow.state (get_or leaves arrow.state []) o prior) (sym reader)
                  (subst (λ l. Passes numbers pairs item arrow.state l arrow.edge.now.ops prior) (sym (leave arrow.state))
                  (subst (λ s. Passes numbers pairs item s (state_of auto.states s).leave arrow.edge.now.ops prior) (sym from)
                  (subst (λ (e : Edge). Passes numbers pairs item prior.state (state_of auto.states prior.state).leave e.ops prior) (sym is)
                  passes))),
            )

-- ---- step by step

pub begun-grown : (auto : Auto) (numbers : List ℕ) (lists : List (List Key)) (pairs : List Pair) (item : Item) (old new : List Item)
    → Grows (IsPrior auto numbers pairs item) old new → ((other : Item) → Contains new other → IsItem auto numbers other)
    → IsBegun auto numbers lists pairs old → IsBegun auto numbers lists pairs new
begun-grown auto numbers lists pairs item old new grows right begun = record {
  sound = right;
  accepts = λ other is. grown-has (IsPrior auto numbers pairs item) old new grows other (begun.accepts other is);
  left = λ other is. grown-has (IsPrior auto numbers pairs item) old new grows other (begun.left other is);
}

pub items-found : (auto : Auto) (numbers : List ℕ) (lists : List (List Key)) (pairs : List Pair) (items : List Item) (done : ℕ)
    → IsSearch (IsItem auto numbers) (IsPrior auto numbers pairs) items done → length items ≤ done → IsBegun auto numbers lists pairs items
    → AreItems auto numbers lists pairs items
items-found auto numbers lists pairs items done found all begun = record {
  begun = begun;
  closed = λ item prior has is. search-ends (IsItem auto numbers) (IsPrior auto numbers pairs) items done found all item prior has is;
}
