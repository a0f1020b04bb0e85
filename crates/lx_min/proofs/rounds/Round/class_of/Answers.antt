use Rattle.std.proofs.Common.{◌≡◌, ◌≤◌, [], ◌∷◌, Some, true, false, inl, inr, length, slice_get, refl, sym, ◌∙◌, subst, arith, append-nil, if◌then◌else◌}
use Rattle.std.proofs.lemmas.Option.{slice_get_read}
use Rattle.lx_min.specs.declared.rounds.Round.{Round}
use Rattle.lx_min.specs.Joined.{class_in}
use Rattle.lx_min.specs.Rounds.{Takes}
use Rattle.lx_min.specs.Signatures.{AreChosen, HasSign}
use Rattle.lx_min.proofs.SignatureLists.{HasSign-stored, chosen-few, chosen-more, inserted-new, inserted-same}
use Rattle.lx_min.proofs.rounds.Round.class_of.Goals as goal
use Rattle.lx_min.proofs.rounds.Round.class_of.Goals.{then-is_new+in_ok-push, else-is_new}

looks_so : (c : goal.Joined-is_new) → slice_get c.args.looks.now c.args.state ≡ Some c.index-looks-state.result
looks_so c =
    slice_get_read c.args.looks.now (length c.args.looks.now) c.args.state c.index-looks-state.result refl
    c.requires.within c.index-looks-state.is

pub overflow_cast-result : goal.overflow_cast-result
overflow_cast-result c =
    let old = c.args.self.now in
    let few = chosen-few (class_in c.args.classes.now) c.args.looks.now old.signatures.keys old.chosen.items c.requires.chosen in
    let one : (if c.in_ok-place.is_new then 1 else 0) ≤ 1 =
    elim c.in_ok-place.is_new as (λ b. (if b then 1 else 0) ≤ 1) [ true ↦ omega arith | false ↦ omega arith ] in
    omega (arith, few, one, c.requires.few, c.requires.chosen.count, c.in_ok-place.ensures.within, c.in_ok-place.ensures.len)

pub returns-clause-chosen : goal.returns-clause-chosen
returns-clause-chosen c =
    let class = class_in c.args.classes.now in
    let looks = c.args.looks.now in
    let old = c.args.self.now in
    let told = c.in_ok-place.ensures in
    let new = c.insert_full.new.self.keys in
    let value = c.in_ok-signature.signature in
    elim c.if-is_new.branch [
      | then-is_new+in_ok-push w ↦
          let pushed = inserted-new old.signatures.keys new value c.in_ok-place.is_new told.added told.keys w.if-is_new.true in
          subst (λ (round : Round). AreChosen class looks round.signatures.keys round.chosen.items) (sym w.self-is)
          (subst (AreChosen class looks new) (sym w.in_ok-push.ensures.items)
          (chosen-more class looks old.signatures.keys new old.chosen.items value c.index-looks-state.result c.args.state c.requires.chosen
          told.unique pushed (looks_so c) c.in_ok-signature.ensures))
      | else-is_new w ↦
          let kept = inserted-same old.signatures.keys new value c.in_ok-place.is_new told.added told.keys w.if-is_new.false in
          subst (λ (round : Round). AreChosen class looks round.signatures.keys round.chosen.items) (sym w.self-is)
          (subst (λ l. AreChosen class looks l old.chosen.items) (sym kept) c.requires.chosen)
    ]

pub returns-clause-signed : goal.returns-clause-signed
returns-clause-signed c =
    let class = class_in c.args.classes.now in
    let looks = c.args.looks.now in
    let has = HasSign-stored class looks c.insert_full.new.self.keys c.in_ok-signature.signature c.index-looks-state.result
    c.in_ok-place.place c.args.state (looks_so c) c.in_ok-signature.ensures c.in_ok-place.ensures.stored in
    elim c.if-is_new.branch [
      | then-is_new+in_ok-push w ↦
          subst (λ (round : Round). HasSign class looks round.signatures.keys c.in_ok-place.place c.args.state) (sym w.self-is) has
      | else-is_new w ↦
          subst (λ (round : Round). HasSign class looks round.signatures.keys c.in_ok-place.place c.args.state) (sym w.self-is) has
    ]

pub returns-clause-takes : goal.returns-clause-takes
returns-clause-takes c =
    let old = c.args.self.now in
    let told = c.in_ok-place.ensures in
    let new = c.insert_full.new.self.keys in
    let value = c.in_ok-signature.signature in
    elim c.if-is_new.branch [
      | then-is_new+in_ok-push w ↦
          subst (λ (round : Round). Takes old round c.args.state) (sym w.self-is) (record {
            more = value ∷ [];
            signatures = inserted-new old.signatures.keys new value c.in_ok-place.is_new told.added told.keys w.if-is_new.true;
            chosen = inr w.in_ok-push.ensures.items;
          })
      | else-is_new w ↦
          subst (λ (round : Round). Takes old round c.args.state) (sym w.self-is) (record {
            more = [];
            signatures =
                inserted-same old.signatures.keys new value c.in_ok-place.is_new told.added told.keys w.if-is_new.false
                ∙ sym (append-nil old.signatures.keys);
            chosen = inl refl;
          })
    ]
