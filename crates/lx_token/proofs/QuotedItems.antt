-- Strings and classes are made of items.
use Rattle.std.proofs.Common.{◌≡◌, ◌≢◌, ℕ, zero, suc, ◌≤◌, ⊎_elim, Bool, true, false, cond, List, [], ◌∷◌, ◌++◌, length, take, drop, Some, None, refl, sym, ◌∙◌, ap, subst, arith, eq-eqb}
use Rattle.std.proofs.lemmas.Bool.{ne_eqb}
use Rattle.std.proofs.lemmas.Bool.Decides.{eqb_tells}
use Rattle.std.proofs.lemmas.Option.{same_Some}
use Rattle.std.proofs.lemmas.List.{take-append-drop, length-drop}
use Rattle.lx_token.specs.Quoted.{is_hex_digit, is_escape, after_close, after_quoted}
use Rattle.lx_token.specs.Items.{Item, AreItems, spelled, BeginsQuoted}
use Rattle.lx_token.specs.Items.Item.{Plain, Escape}
use Rattle.lx_token.proofs.Escapes.{after_close-digits, escape-digits, escape-begins, escape_digits_are_hex}

-- a text that begins with items and a closing letter, and the rest of it
record BeginsItems (close : ℕ) (text rest : List ℕ) : Type 0 where
  items : List Item
  are_items : AreItems close items
  text_is : text ≡ spelled items (close ∷ rest)

module _ (close : ℕ) (no_digit : is_hex_digit close ≡ false) where
  -- items and a closing letter are passed over
  items_pass : (items : List Item) (rest : List ℕ) → close ≢ 92 → AreItems close items → after_close close false (spelled items (close ∷ rest)) ≡ Some rest
  items_pass [] rest no_backslash are = let same = eq-eqb close close refl in rw same
  items_pass (Plain letter ∷ items) rest no_backslash are =
      rw (ne_eqb letter close are.0.0, ne_eqb letter 10 are.0.2, ne_eqb letter 92 are.0.1) (items_pass items rest no_backslash are.1)
  items_pass (Escape letter digits ∷ items) rest no_backslash are =
      let other = ne_eqb 92 close (λ same. no_backslash (sym same)) in
      let tail = spelled items (close ∷ rest) in
      rw (
        other,
        escape-begins letter digits tail are.0,
        after_close-digits close digits tail no_digit (escape_digits_are_hex letter digits are.0),
      ) (items_pass items rest no_backslash are.1)

  abbrev ItemsOf : List ℕ → List ℕ → Type 0
  ItemsOf text rest = after_close close false text ≡ Some rest → BeginsItems close text rest

  behind_backslash : (letter : ℕ) (text rest : List ℕ) → ((count : ℕ) → ItemsOf (drop count text) rest) →
      cond (is_escape letter text) (after_close close false text) None ≡ Some rest → BeginsItems close (92 ∷ letter ∷ text) rest
  behind_backslash letter text rest next h = at (is_escape letter text) refl h
    where
      at : (b : Bool) → is_escape letter text ≡ b → cond b (after_close close false text) None ≡ Some rest → BeginsItems close (92 ∷ letter ∷ text) rest
      at true is passes =
          let digits = escape-digits letter text is in
          let count = digits.count in
          let split = take-append-drop count text in
          let jump = after_close-digits close (take count text) (drop count text) no_digit digits.digits in
          let behind : after_close close false (drop count text) ≡ Some rest = sym jump ∙ ap (after_close close false) split ∙ passes in
          let more = next count behind in record {
            items = Escape letter (take count text) ∷ more.items;
            are_items = (digits.is_escape, more.are_items);
            text_is = ap (λ (l : List ℕ). 92 ∷ letter ∷ l) (sym split ∙ ap (λ (l : List ℕ). take count text ++ l) more.text_is);
          }
      at false is passes = absurd (cc)

  items_of : (steps : ℕ) (text rest : List ℕ) → length text ≤ steps → ItemsOf text rest
  items_of zero [] rest le h = absurd (cc)
  items_of zero (letter ∷ text) rest le h = absurd (omega arith)
  items_of (suc steps) [] rest le h = absurd (cc)
  items_of (suc steps) (letter ∷ text) rest le h =
      ⊎_elim
      (λ closes.
      let passes = rw closes.0 at h in
      let same = same_Some text rest passes in
      record { items = []; are_items = tt; text_is = rw (closes.1, same) })
      (λ inner.
      ⊎_elim (λ line. let clash = rw (inner.0, line.0) at h in absurd (cc))
      (λ no_line.
      ⊎_elim
      (λ backslash.
      let escaped = rw (inner.0, no_line.0, backslash.0) at h in
      subst (λ l. BeginsItems close (l ∷ text) rest) (sym backslash.1)
      (escape_of text rest (λ mark tail count le'. items_of steps (drop count tail) rest (omega (arith, length-drop count tail))) (omega arith) escaped))
      (λ plain.
      let more = items_of steps text rest (omega arith) (rw (inner.0, no_line.0, plain.0) at h) in record {
        items = Plain letter ∷ more.items;
        are_items = ((inner.1, plain.1, no_line.1), more.are_items);
        text_is = ap (λ (l : List ℕ). letter ∷ l) more.text_is;
      }) (eqb_tells letter 92)) (eqb_tells letter 10)) (eqb_tells letter close)
    where
      escape_of : (text rest : List ℕ) → ((mark : ℕ) (tail : List ℕ) (count : ℕ) → length (mark ∷ tail) ≤ steps → ItemsOf (drop count tail) rest) →
          length text ≤ steps → after_close close true text ≡ Some rest → BeginsItems close (92 ∷ text) rest
      escape_of [] rest next le h = absurd (cc)
      escape_of (mark ∷ tail) rest next le h = behind_backslash mark tail rest (λ count. next mark tail count le) h

  pub quoted_items : (opener : ℕ) (text rest : List ℕ) → after_quoted opener close text ≡ Some rest → BeginsQuoted opener close text rest
  quoted_items opener [] rest h = absurd (cc)
  quoted_items opener (letter ∷ text) rest h =
      ⊎_elim
      (λ opens.
      let more = items_of (length text) text rest (omega arith) (rw opens.0 at h) in record {
        items = more.items;
        are_items = more.are_items;
        text_is = rw opens.1 (ap (λ (l : List ℕ). opener ∷ l) more.text_is);
      })
      (λ other. let clash = rw other.0 at h in absurd (cc)) (eqb_tells letter opener)

  pub items_quoted : (opener : ℕ) (text rest : List ℕ) → close ≢ 92 → BeginsQuoted opener close text rest → after_quoted opener close text ≡ Some rest
  items_quoted opener text rest no_backslash begins =
      let same = eq-eqb opener opener refl in
      rw (begins.text_is, same) (items_pass begins.items rest no_backslash begins.are_items)
