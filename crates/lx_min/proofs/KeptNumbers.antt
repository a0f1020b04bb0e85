-- What states do in numbers stays right where numbers are kept.
use Rattle.std.proofs.Common.{ℕ, ◌+◌, ◌<◌, List, [], ◌∷◌, ◌++◌, Option, Some, None, length, take, get_or, sym, subst}
use Rattle.std.specs.List.{AllZip}
use Rattle.std.proofs.lemmas.List.{take_more}
use Rattle.std.proofs.lemmas.Slice.Zip.{all_zipped_more}
use Rattle.lx_auto.specs.declared.automaton.Accept.{Accept}
use Rattle.lx_auto.specs.declared.automaton.Edge.{Edge}
use Rattle.lx_auto.specs.declared.automaton.State.{State}
use Rattle.lx_auto.specs.declared.ops.Op.{Op}
use Rattle.lx_min.specs.Canonical.{canonical}
use Rattle.lx_min.specs.declared.looks.Look.{Look}
use Rattle.lx_min.specs.declared.looks.Way.{Way}
use Rattle.lx_min.specs.Numbers.{IsLook, IsNumbered, IsWay, Keeps, NumberedAccept}

pub AllZip-where : {A B : Type 0} (R S : A → B → Type 0) (xs : List A) (ys : List B) → ((x : A) (y : B) → R x y → S x y) → AllZip R xs ys
    → AllZip S xs ys
AllZip-where R S [] [] all zip = zip
AllZip-where R S [] (y ∷ ys) all zip = zip
AllZip-where R S (x ∷ xs) [] all zip = zip
AllZip-where R S (x ∷ xs) (y ∷ ys) all (first, later) = (all x y first, AllZip-where R S xs ys all later)

-- one more element
pub AllZip-more : {A B : Type 0} (R : A → B → Type 0) (xs : List A) (ys : List B) (index : ℕ) (d : A) (y : B) → index < length xs
    → AllZip R (take index xs) ys → R (get_or xs index d) y → AllZip R (take (index + 1) xs) (ys ++ y ∷ [])
AllZip-more R xs ys index d y within zip next =
    subst (λ front. AllZip R front (ys ++ y ∷ [])) (sym (take_more xs index d within))
    (all_zipped_more R (take index xs) ys (get_or xs index d) y zip next)

module _ (old new : List (List Op)) (keeps : Keeps old new) where
  pub IsWay-kept : (leave : List Op) (edge : Edge) (way : Way) → IsWay old leave edge way → IsWay new leave edge way
  IsWay-kept leave edge way is = record {
    lo = is.lo;
    hi = is.hi;
    leaves = keeps way.leave (canonical leave) is.leaves;
    ops = keeps way.ops (canonical edge.ops) is.ops;
    to = is.to;
  }

  pub IsNumbered-kept : (accept : Option Accept) (key : Option NumberedAccept) → IsNumbered old accept key → IsNumbered new accept key
  IsNumbered-kept None None is = is
  IsNumbered-kept None (Some key) is = is
  IsNumbered-kept (Some accept) None is = is
  IsNumbered-kept (Some accept) (Some key) (rule, values, ops) = (rule, values, keeps key.ops (canonical accept.ops) ops)

  pub IsLook-kept : (before after : List (Option NumberedAccept)) → Keeps before after → (state : State) (look : Look)
      → IsLook old before state look
      → IsLook new after state look
  IsLook-kept before after stays state look is = record {
    key = is.key;
    numbered = IsNumbered-kept state.accept is.key is.numbered;
    accept = stays look.accept is.key is.accept;
    ways =
        AllZip-where (IsWay old state.leave) (IsWay new state.leave) state.edges look.ways.items
        (λ edge way. IsWay-kept state.leave edge way) is.ways;
  }
