-- The tokens of a body stand in it, in order.
use Rattle.std.proofs.Common.{◌≡◌, ◌≢◌, ℕ, zero, suc, ◌+◌, ◌-◌, ◌<◌, ◌≤◌, ⊎_elim, List, [], ◌∷◌, ◌++◌, length, take, drop, Option, Some, None, Ok, Err, refl, sym, ◌∙◌, ap, subst, arith, append_assoc}
use Rattle.std.proofs.Math.Seq.{take-add}
use Rattle.std.proofs.lemmas.List.{append-nil, drop-drop}
use Rattle.lx_base.specs.declared.places.Pos.{Pos}
use Rattle.lx_base.specs.declared.faults.Fault.{Fault}
use Rattle.lx_base.specs.declared.faults.Fault.TheVariants.{BadToken}
use Rattle.lx_token.specs.declared.list.Token.{Token}
use Rattle.lx_token.specs.declared.kinds.TokenKind.{TokenKind}
use Rattle.lx_token.specs.Blanks.{after_blank}
use Rattle.lx_base.specs.Places.{next_place, place_after}
use Rattle.lx_token.specs.Rows.{Found, after_token, longest_token}
use Rattle.lx_token.specs.Spans.{AreInOrder, Stands, EachStands, Covers, AreTokens, IsBadTokenFrom, IsBadToken}
use Rattle.lx_token.specs.Spans.PassesBlanks.{stay, pass}
use Rattle.lx_token.specs.Tokens.{Tokens, place_of_rest, token_at, step, tokens_from, tokens_of}
use Rattle.lx_token.proofs.Ends.{IsEnd, IsShorterEnd, LeavesEnd, IsShorterEnd-end, after_blank-end, after_token-end}
use Rattle.lx_token.proofs.Ties.{no_ties}
use Rattle.lx_token.proofs.Longest.{longest_token-is, longest_token-longest, longest_token-none}

pub place_after-append : (at : Pos) (front back : List ℕ) → place_after at (front ++ back) ≡ place_after (place_after at front) back
place_after-append at [] back = refl
place_after-append at (letter ∷ front) back = place_after-append (next_place at letter) front back

-- an end of a text, by its length
pub record IsDrop (text rest : List ℕ) : Type 0 where
  pub within : length rest ≤ length text
  pub rest_is : rest ≡ drop (length text - length rest) text

pub IsEnd-drop_is : (text rest : List ℕ) → IsEnd text rest → IsDrop text rest
IsEnd-drop_is [] rest same = subst (λ l. IsDrop [] l) (sym same) (record { within = omega arith; rest_is = refl })
IsEnd-drop_is (letter ∷ text) rest end =
    ⊎_elim
    (λ same.
    let none : length (letter ∷ text) - length (letter ∷ text) ≡ 0 = omega arith in
    subst (λ l. IsDrop (letter ∷ text) l) (sym same) (record { within = omega arith; rest_is = rw none }))
    (λ later.
    let drops = IsEnd-drop_is text rest later in
    let le = drops.within in
    let more : length (letter ∷ text) - length rest ≡ suc (length text - length rest) = omega arith in
    record { within = omega arith; rest_is = rw more drops.rest_is }) end

-- a text that stands at the end of a body, and its place
pub record StaysIn (body : List ℕ) (start : Pos) (at : Pos) (text : List ℕ) : Type 0 where
  pub within : length text ≤ length body
  pub text_is : text ≡ drop (length body - length text) body
  pub at_is : at ≡ place_after start (take (length body - length text) body)

StaysIn-start : (body : List ℕ) (start : Pos) → StaysIn body start start body
StaysIn-start body start =
    let none : length body - length body ≡ 0 = omega arith in record {
      within = omega arith;
      text_is = rw none;
      at_is = rw none;
    }

StaysIn-rest : (body : List ℕ) (start at : Pos) (text rest : List ℕ) → StaysIn body start at text → IsDrop text rest →
    StaysIn body start (place_of_rest at text rest) rest
StaysIn-rest body start at text rest stays drops =
    let n = length body - length text in
    let k = length text - length rest in
    let le = stays.within in
    let le' = drops.within in
    let sum_is : length body - length rest ≡ n + k = omega arith in record {
      within = omega arith;
      text_is = rw (sum_is, ← drop-drop k n body) (drops.rest_is ∙ ap (λ (l : List ℕ). drop k l) stays.text_is);
      at_is =
          rw (sum_is, take-add n k body, place_after-append start (take n body) (take k (drop n body)), ← stays.at_is, ← stays.text_is) refl;
    }

AreInOrder-earlier : (from later size : ℕ) (tokens : List Token) → from ≤ later → AreInOrder later size tokens → AreInOrder from size tokens
AreInOrder-earlier from later size [] le h = tt
AreInOrder-earlier from later size (token ∷ tokens) le h = (omega arith, h.1, h.2, h.3)

-- the tokens that were answered are those that were there, and more that stand in the body
record GoesOn (body : List ℕ) (start : Pos) (tokens list : List Token) (from : ℕ) : Type 0 where
  more : List Token
  all : list ≡ tokens ++ more
  in_order : AreInOrder from (length body) more
  each_stands : EachStands body start more
  covers : Covers body from (length body) more

-- one more blank or comment before the tokens
Covers-blank : (body : List ℕ) (from later to : ℕ) (tokens : List Token) → after_blank (drop from body) ≡ Some (drop later body) →
    Covers body later to tokens → Covers body from to tokens
Covers-blank body from later to [] blank covers = pass (drop from body) (drop later body) (drop to body) blank covers
Covers-blank body from later to (token ∷ tokens) blank covers =
    (pass (drop from body) (drop later body) (drop token.from body) blank covers.0, covers.1, covers.2)

left_end : (text : List ℕ) (rest : Option (List ℕ)) (tail : List ℕ) → rest ≡ Some tail → LeavesEnd text rest → IsShorterEnd text tail
left_end text rest tail is h = let P : Option (List ℕ) → Type 0 = λ o. LeavesEnd text o in subst P is h

shorter_drop : (text tail : List ℕ) → IsShorterEnd text tail → IsDrop text tail
shorter_drop text tail h = IsEnd-drop_is text tail (IsShorterEnd-end text tail h)

shorter_length : (text tail : List ℕ) → IsShorterEnd text tail → length tail < length text
shorter_length [] tail h = absurd h
shorter_length (letter ∷ text) tail h = let drops = IsEnd-drop_is text tail h in let le = drops.within in omega arith

-- what is found is longer than a token of another kind
strictly : (text : List ℕ) (found : Found) → longest_token text ≡ Some found → (kind : TokenKind) (rest : List ℕ) → kind ≢ found.0 →
    after_token kind text ≡ Some rest → length found.1 < length rest
strictly text found is kind rest differs stands =
    let le = longest_token-longest text found is kind rest stands in
    let apart : length rest ≢ length found.1 = λ tie. differs (no_ties kind found.0 text rest found.1 stands (longest_token-is text found is) tie) in
    omega arith

module _ (body : List ℕ) (start : Pos) where
  abbrev Next : Type 0
  Next = (tokens : List Token) (at : Pos) (text : List ℕ) → Tokens

  abbrev offset_of : List ℕ → ℕ
  offset_of text = length body - length text

  abbrev NextGoesOn : (room : ℕ) → Next → Type 0
  NextGoesOn room next =
      (tokens : List Token) (at : Pos) (text : List ℕ) (list : List Token) → StaysIn body start at text → length text ≤ room →
      next tokens at text ≡ Ok list → GoesOn body start tokens list (offset_of text)

  stands_here : (at : Pos) (text : List ℕ) (found : Found) → StaysIn body start at text → longest_token text ≡ Some found →
      Stands body start (token_at (length body) at text found)
  stands_here at text found stays is =
      let here = longest_token-is text found is in
      let tail_end = left_end text (after_token found.0 text) found.1 here (after_token-end found.0 text) in
      let rest = StaysIn-rest body start at text found.1 stays (shorter_drop text found.1 tail_end) in record {
        place = stays.at_is;
        text = rw (← stays.text_is, ← rest.text_is) here;
        longest = λ kind other differs stands. rw (← rest.text_is) (strictly text found is kind other differs (rw (← stays.text_is) at stands));
      }

  blank_here : (at at' : Pos) (text tail : List ℕ) → StaysIn body start at text → StaysIn body start at' tail → after_blank text ≡ Some tail →
      after_blank (drop (offset_of text) body) ≡ Some (drop (offset_of tail) body)
  blank_here at at' text tail stays stays' is = rw (← stays.text_is, ← stays'.text_is) is

  step_goes_on : (room : ℕ) (next : Next) → NextGoesOn room next → (tokens : List Token) (at : Pos) (text : List ℕ) (list : List Token)
      (blank : Option (List ℕ)) (found : Option Found) → after_blank text ≡ blank → longest_token text ≡ found → StaysIn body start at text →
      length text ≤ suc room → step next (length body) tokens at text blank found ≡ Ok list → GoesOn body start tokens list (offset_of text)
  step_goes_on room next goes tokens at text list (Some tail) found is_blank is_token stays le is =
      let tail_end = left_end text (after_blank text) tail is_blank (after_blank-end text) in
      let less = shorter_length text tail tail_end in
      let stays' = StaysIn-rest body start at text tail stays (shorter_drop text tail tail_end) in
      let on = goes tokens (place_of_rest at text tail) tail list stays' (omega arith) is in record {
        more = on.more;
        all = on.all;
        in_order = AreInOrder-earlier (offset_of text) (offset_of tail) (length body) on.more (omega arith) on.in_order;
        each_stands = on.each_stands;
        covers =
            Covers-blank body (offset_of text) (offset_of tail) (length body) on.more
            (blank_here at (place_of_rest at text tail) text tail stays stays' is_blank) on.covers;
      }
  step_goes_on room next goes tokens at text list None None is_blank is_token stays le is = absurd (cc)
  step_goes_on room next goes tokens at text list None (Some found) is_blank is_token stays le is =
      let here = longest_token-is text found is_token in
      let tail_end = left_end text (after_token found.0 text) found.1 here (after_token-end found.0 text) in
      let less = shorter_length text found.1 tail_end in
      let within = stays.within in
      let stays' = StaysIn-rest body start at text found.1 stays (shorter_drop text found.1 tail_end) in
      let token = token_at (length body) at text found in
      let on = goes (tokens ++ token ∷ []) (place_of_rest at text found.1) found.1 list stays' (omega arith) is in record {
        more = token ∷ on.more;
        all = on.all ∙ append_assoc tokens (token ∷ []) on.more;
        in_order = (omega arith, omega arith, omega arith, on.in_order);
        each_stands = (stands_here at text found stays is_token, on.each_stands);
        covers = (stay (drop (offset_of text) body), rw (← stays.text_is) is_blank, on.covers);
      }

  ended : (tokens list : List Token) (at : Pos) (text : List ℕ) → StaysIn body start at text → length text ≡ 0 → list ≡ tokens →
      GoesOn body start tokens list (offset_of text)
  ended tokens list at text stays empty same =
      let from : offset_of text ≡ length body = omega arith in record {
        more = [];
        all = same ∙ sym (append-nil tokens);
        in_order = tt;
        each_stands = tt;
        covers = rw from (stay (drop (length body) body));
      }

  tokens_go_on : (steps : ℕ) → NextGoesOn steps (tokens_from steps (length body))
  tokens_go_on zero tokens at text list stays le is = ended tokens list at text stays (omega arith) (cc)
  tokens_go_on (suc steps) tokens at [] list stays le is = ended tokens list at [] stays refl (cc)
  tokens_go_on (suc steps) tokens at (letter ∷ text) list stays le is =
      step_goes_on steps (tokens_from steps (length body)) (tokens_go_on steps) tokens at (letter ∷ text) list (after_blank (letter ∷ text))
      (longest_token (letter ∷ text)) refl refl stays le is

  pub tokens_stand : (list : List Token) → tokens_of body start ≡ Ok list → AreTokens body start list
  tokens_stand list is =
      let on = tokens_go_on (length body) [] start body list (StaysIn-start body start) (omega arith) is in
      let from : length body - length body ≡ 0 = omega arith in
      subst (λ l. AreTokens body start l) (sym on.all)
      (record { in_order = rw from at on.in_order; each_stands = on.each_stands; covers = rw from at on.covers })

  abbrev NextStops : Next → Type 0
  NextStops next =
      (tokens : List Token) (at : Pos) (text : List ℕ) (fault : Fault) → StaysIn body start at text → next tokens at text ≡ Err fault →
      IsBadTokenFrom (offset_of text) body start fault

  step_stops : (next : Next) → NextStops next → (tokens : List Token) (at : Pos) (letter : ℕ) (text : List ℕ) (fault : Fault)
      (blank : Option (List ℕ)) (found : Option Found) → after_blank (letter ∷ text) ≡ blank → longest_token (letter ∷ text) ≡ found →
      StaysIn body start at (letter ∷ text) → step next (length body) tokens at (letter ∷ text) blank found ≡ Err fault →
      IsBadTokenFrom (offset_of (letter ∷ text)) body start fault
  step_stops next stops tokens at letter text fault (Some tail) found is_blank is_token stays is =
      let whole = letter ∷ text in
      let tail_end = left_end whole (after_blank whole) tail is_blank (after_blank-end whole) in
      let stays' = StaysIn-rest body start at whole tail stays (shorter_drop whole tail tail_end) in
      let bad = stops tokens (place_of_rest at whole tail) tail fault stays' is in record {
        tokens = bad.tokens;
        offset = bad.offset;
        within = bad.within;
        each_stands = bad.each_stands;
        covers =
            Covers-blank body (offset_of whole) (offset_of tail) bad.offset bad.tokens
            (blank_here at (place_of_rest at whole tail) whole tail stays stays' is_blank) bad.covers;
        fault_is = bad.fault_is;
        no_blank = bad.no_blank;
        no_token = bad.no_token;
      }
  step_stops next stops tokens at letter text fault None None is_blank is_token stays is =
      let within = stays.within in
      let fault_is : fault ≡ BadToken at = cc in record {
        tokens = [];
        offset = offset_of (letter ∷ text);
        within = omega arith;
        each_stands = tt;
        covers = stay (drop (offset_of (letter ∷ text)) body);
        fault_is = fault_is ∙ ap BadToken stays.at_is;
        no_blank = rw (← stays.text_is) is_blank;
        no_token = λ kind. rw (← stays.text_is) (longest_token-none (letter ∷ text) is_token kind);
      }
  step_stops next stops tokens at letter text fault None (Some found) is_blank is_token stays is =
      let whole = letter ∷ text in
      let here = longest_token-is whole found is_token in
      let tail_end = left_end whole (after_token found.0 whole) found.1 here (after_token-end found.0 whole) in
      let token = token_at (length body) at whole found in
      let stays' = StaysIn-rest body start at whole found.1 stays (shorter_drop whole found.1 tail_end) in
      let bad = stops (tokens ++ token ∷ []) (place_of_rest at whole found.1) found.1 fault stays' is in record {
        tokens = token ∷ bad.tokens;
        offset = bad.offset;
        within = bad.within;
        each_stands = (stands_here at whole found stays is_token, bad.each_stands);
        covers = (stay (drop (offset_of whole) body), rw (← stays.text_is) is_blank, bad.covers);
        fault_is = bad.fault_is;
        no_blank = bad.no_blank;
        no_token = bad.no_token;
      }

  tokens_stop : (steps : ℕ) → NextStops (tokens_from steps (length body))
  tokens_stop zero tokens at text fault stays is = absurd (cc)
  tokens_stop (suc steps) tokens at [] fault stays is = absurd (cc)
  tokens_stop (suc steps) tokens at (letter ∷ text) fault stays is =
      step_stops (tokens_from steps (length body)) (tokens_stop steps) tokens at letter text fault (after_blank (letter ∷ text))
      (longest_token (letter ∷ text)) refl refl stays is

  pub fault_is_bad_token : (fault : Fault) → tokens_of body start ≡ Err fault → IsBadToken body start fault
  fault_is_bad_token fault is =
      let bad = tokens_stop (length body) [] start body fault (StaysIn-start body start) is in
      let from : length body - length body ≡ 0 = omega arith in subst (λ n. IsBadTokenFrom n body start fault) from bad
