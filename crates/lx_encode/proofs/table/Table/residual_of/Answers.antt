use Rattle.std.proofs.Common.{◌≡◌, ◌+◌, ℕ, false, List, Option, Some, None, is_some, [], ◌∷◌, ◌++◌, length, refl, sym, ap, subst, ◌∙◌, arith, Vec, Global}
use Rattle.std.specs.Prelude.{All}
use Rattle.std.specs.Cmp.Lexicographic.{pointwise}
use Rattle.std.specs.Map.{lookup}
use Rattle.std.proofs.lemmas.List.{length-map, length_push}
use Rattle.std.proofs.lemmas.List.Elements.{All-push}
use Rattle.lx_encode.specs.declared.runs.Run.{Run}
use Rattle.lx_encode.specs.contracts.runs.RunPartialEq.TheImpl.{eq-value}
use Rattle.lx_encode.specs.Runs.{AreSorted, LeadBelow, cuts_of}
use Rattle.lx_encode.specs.Table.{GrowsBy, HasItsCuts, IsTable, Rows, row_of, rows_in}
use Rattle.lx_encode.proofs.RunLists.{IsRow-sorted}
use Rattle.lx_encode.proofs.TableEntries.{none_found, put_last, row_found, rows_put}
use Rattle.lx_encode.proofs.TableRows.{grows_pushed, row_pushed, table_pushed}
use Rattle.lx_encode.proofs.table.Table.residual_of.Goals as goal

pub returns-in-Some-clause-row : goal.returns-in-Some-clause-row
returns-in-Some-clause-row c =
    let entries = c.self.inside.rows.entries in
    ap (λ rows. row_of rows c.in-Some.place) (sym c.self.view_is)
    ∙ row_found c.as_slice.result.now entries c.in-Some.place c.in-Some.ensures.index c.in-Some.ensures.within
    ∙ c.as_slice.ensures.value

pub cuts-requires : goal.cuts-requires
cuts-requires c = subst (λ l. AreSorted l) (sym c.deref.ensures.value) (IsRow-sorted c.args.runs.items c.requires.row)

-- where no row is found, the entries and the rows get one more
record Put (old new : List (Vec Run Global × Vec ℕ Global)) (runs : Vec Run Global) (cuts : Vec ℕ Global) : Type 0 where
  pub entries : new ≡ old ++ (runs, cuts) ∷ []
  pub rows : rows_in new ≡ rows_in old ++ runs.items ∷ []
  pub table : IsTable (rows_in new)
  pub count : length (rows_in old) ≡ length old

is_none : {X : Type 0} (o : Option X) → is_some o ≡ false → o ≡ None
is_none None e = refl
is_none (Some x) e = cc

put : (c : goal.Joined-branch-3) → Put c.self.inside.rows.entries c.insert.new.self.entries c.args.runs c.in_ok-cuts.cuts
put c =
    let old = c.self.inside.rows.entries in
    let new = c.insert.new.self.entries in
    let runs = c.args.runs in
    let cuts = c.in_ok-cuts.cuts in
    let none : lookup (λ (key : Vec Run Global). pointwise eq-value.it runs.items key.items) old ≡ None =
    subst (λ (l : List Run). lookup (λ (key : Vec Run Global). pointwise eq-value.it l key.items) old ≡ None) c.as_slice.ensures.value
    (is_none _ (sym c.in_default.ensures.found)) in
    let entries : new ≡ old ++ (runs, cuts) ∷ [] = c.in_ok-insert.ensures.entries ∙ put_last old runs cuts none in
    let rows : rows_in new ≡ rows_in old ++ runs.items ∷ [] = rows_put old new runs cuts entries in
    let earlier : LeadBelow runs.items (length (rows_in old)) = subst (λ (rows : Rows). LeadBelow runs.items (length rows)) (sym c.self.view_is) c.requires.earlier in
    record {
      entries = entries;
      rows = rows;
      table = subst IsTable (sym rows) (table_pushed (rows_in old) runs.items c.self.invariant.0 c.requires.row earlier (none_found runs.items old none));
      count = length-map old _;
    }

pub invariant_of-self-2 : goal.invariant_of-self-2
invariant_of-self-2 c =
    let p = put c in
    (p.table, subst (All HasItsCuts) (sym p.entries) (All-push HasItsCuts c.self.inside.rows.entries (c.args.runs, c.in_ok-cuts.cuts) c.self.invariant.1 (c.in_ok-cuts.ensures ∙ ap cuts_of c.deref.ensures.value)))

pub returns-clause-table : goal.returns-clause-table
returns-clause-table c = (put c).table

pub returns-clause-grows : goal.returns-clause-grows
returns-clause-grows c =
    let p = put c in
    subst (λ (old : Rows). GrowsBy old (rows_in c.insert.new.self.entries) 1) c.self.view_is
    (subst (λ (new : Rows). GrowsBy (rows_in c.self.inside.rows.entries) new 1) (sym p.rows) (grows_pushed (rows_in c.self.inside.rows.entries) c.args.runs.items))

pub returns-clause-row : goal.returns-clause-row
returns-clause-row c =
    let p = put c in
    let count : c.len-place.result ≡ length (rows_in c.self.inside.rows.entries) = c.len-place.ensures.len ∙ sym p.count in
    ap (λ (rows : Rows). row_of rows c.len-place.result) p.rows
    ∙ ap (row_of (rows_in c.self.inside.rows.entries ++ c.args.runs.items ∷ [])) count
    ∙ row_pushed (rows_in c.self.inside.rows.entries) c.args.runs.items

pub returns-clause-within : goal.returns-clause-within
returns-clause-within c =
    let p = put c in
    let more : length (rows_in c.insert.new.self.entries) ≡ length (rows_in c.self.inside.rows.entries) + 1 =
    ap length p.rows ∙ length_push (rows_in c.self.inside.rows.entries) c.args.runs.items in
    let count : c.len-place.result ≡ length (rows_in c.self.inside.rows.entries) = c.len-place.ensures.len ∙ sym p.count in
    omega (arith, more, count)
