-- The automaton of a table has a run exactly on the words that begin a match.
use Rattle.std.proofs.Common.{◌≡◌, ◌≢◌, ℕ, ◌↔◌, List, [], ◌∷◌, ◌++◌, map, Option, Some, None, Bool, true, false, IsSome, refl, ap, ◌∙◌, sym, subst, inl, append-nil, append_assoc}
use Rattle.lx_auto.specs.Bank.{Bank}
use Rattle.lx_auto.specs.Run.{Standing, and_then, run, start_with, step}
use Rattle.lx_auto.specs.declared.automaton.Auto.{Auto}
use Rattle.lx_base.specs.Spelling.{greatest_unit}
use Rattle.lx_base.specs.declared.settings.Enc.{Enc}
use Rattle.lx_regex.specs.Cut.{BeginsMatch}
use Rattle.lx_regex.specs.Kernel.{IsWord}
use Rattle.lx_regex.specs.Order.{Policy}
use Rattle.lx_regex.specs.Pattern.{Pattern, terms_of}
use Rattle.lx_tnfa.specs.Tnfa.{Tnfa}
use Rattle.lx_tnfa.specs.declared.places.Place.{Place}
use Rattle.lx_tdfa.specs.Kernels.{Candidate, Entry, places}
use Rattle.lx_tdfa.specs.Table.{IsTableBy, Onward}
use Rattle.lx_tdfa.proofs.Tables.Courses.{Course, KeepUp}
use Rattle.lx_tdfa.proofs.Tables.TableRuns.{Stands, stands-run, stands-start, stands-step, stuck}

pub nil_of_map : {X Y : Type 0} (f : X → Y) (xs : List X) → map f xs ≡ [] → xs ≡ []
nil_of_map f [] e = refl
nil_of_map f (x ∷ xs) e = cc e

module _ {policy : Policy} {enc : Enc} {patterns : List Pattern} {tnfa : Tnfa} {course : Course policy enc patterns tnfa} {K : Type 0}
    {begin : K} {places_in : K → List Place} {GoesOn : (first : Bool) → K → Onward K → Type 0}
    {IsAfter : (first : Bool) → K → (word : List ℕ) → Type 0} (keeps : KeepUp course begin places_in GoesOn IsAfter) {kernels : List K} {auto : Auto}
    (table : IsTableBy begin GoesOn tnfa (greatest_unit enc) kernels auto) where
  -- behind a word without places there is none
  entries-stuck : (rest word : List ℕ) → course.entries word ≡ [] → course.entries (word ++ rest) ≡ []
  entries-stuck [] word none = ap (λ w. course.entries w) (append-nil word) ∙ none
  entries-stuck (unit ∷ rest) word none =
      let more : places (course.entries (word ++ unit ∷ [])) ≡ [] =
      course.onward word unit ∙ ap (λ l. map (λ (candidate : Candidate). candidate.to) l) (course.stuck word unit none) in
      ap (λ w. course.entries w) (sym (append_assoc word (unit ∷ []) rest))
      ∙ entries-stuck rest (word ++ unit ∷ []) (nil_of_map (λ (entry : Entry). entry.place) (course.entries (word ++ unit ∷ [])) more)

  stands-begins : (start : ℕ) (word : List ℕ) (behind : Standing) → Stands course places_in IsAfter kernels start word behind
      → BeginsMatch enc (terms_of patterns) word
  stands-begins start [] behind stands = inl refl
  stands-begins start (unit ∷ word) behind stands = at stands.first refl
    where
      ne : unit ∷ word ≢ []
      ne e = cc e

      at : (b : Bool) → stands.first ≡ b → BeginsMatch enc (terms_of patterns) (unit ∷ word)
      at true is = absurd (ne (stands.empty is))
      at false is =
          course.full (unit ∷ word) ne
          (keeps.some stands.kernel (unit ∷ word) (subst (λ b. IsAfter b stands.kernel (unit ∷ word)) is stands.after))

  run-some : (start : ℕ) (rest word : List ℕ) (behind : Standing) → Stands course places_in IsAfter kernels start word behind → IsWord enc (terms_of patterns) rest
      → BeginsMatch enc (terms_of patterns) (word ++ rest) → IsSome (run auto behind rest)
  run-some start [] word behind stands is begins = refl
  run-some start (unit ∷ rest) word behind stands is begins =
      at (step auto behind unit) refl (λ next. run-some start rest (word ++ unit ∷ []) next)
    where
      joined : (word ++ unit ∷ []) ++ rest ≡ word ++ unit ∷ rest
      joined = append_assoc word (unit ∷ []) rest

      some : (front : List ℕ) → front ++ unit ∷ rest ≢ []
      some [] e = cc e
      some (x ∷ front) e = cc e

      at : (found : Option Standing) → step auto behind unit ≡ found
          → ((next : Standing) → Stands course places_in IsAfter kernels start (word ++ unit ∷ []) next → IsWord enc (terms_of patterns) rest
          → BeginsMatch enc (terms_of patterns) ((word ++ unit ∷ []) ++ rest) → IsSome (run auto next rest))
          → IsSome (and_then found (λ next. run auto next rest))
      at None stepped onward =
          let none : course.entries (word ++ unit ∷ []) ≡ [] =
          nil_of_map (λ (entry : Entry). entry.place) (course.entries (word ++ unit ∷ []))
          (stuck keeps table start word behind stands unit is.0 stepped) in
          let end : course.entries (word ++ unit ∷ rest) ≡ [] =
          ap (λ w. course.entries w) (sym joined) ∙ entries-stuck rest (word ++ unit ∷ []) none in
          absurd ((course.begins (word ++ unit ∷ rest) (some word)).0 end begins)
      at (Some next) stepped onward =
          onward next (stands-step keeps table start word behind stands unit next stepped) is.1
          (subst (λ w. BeginsMatch enc (terms_of patterns) w) (sym joined) begins)

  pub table-begins : (start : ℕ) (bank : Bank) (word : List ℕ) → bank.mregs 0 ≡ [] → IsWord enc (terms_of patterns) word
      → IsSome (run auto (start_with start bank) word) ↔ BeginsMatch enc (terms_of patterns) word
  table-begins start bank word empty is = ((λ some. at (run auto (start_with start bank) word) refl some), λ begins. run-some start word [] (start_with start bank) first is begins)
    where
      first : Stands course places_in IsAfter kernels start [] (start_with start bank)
      first = stands-start keeps table start bank empty

      at : (found : Option Standing) → run auto (start_with start bank) word ≡ found → IsSome found → BeginsMatch enc (terms_of patterns) word
      at None ran some = absurd (cc some)
      at (Some behind) ran some =
          stands-begins start word behind (stands-run keeps table start word [] (start_with start bank) behind first ran)
