-- The terminals of an expression are those of a form.
use Rattle.std.proofs.Common.{◌≡◌, ◌<◌, List, [], ◌∷◌, length, refl, sym, ap, ◌∙◌, subst, arith}
use Rattle.lx_parse.specs.declared.sorts.Sort.{Sort}
use Rattle.lx_parse.specs.declared.sorts.Sort.TheVariants.{Bar, Backslash, Open, Close}
use Rattle.lx_parse.specs.Sorts.{is_atom, is_postfix}
use Rattle.lx_parse.specs.Expressions.{Part, alt, diff, post, Reads, sign, group, bare, repeated, first_post, next_post, first_cat, next_cat, first_diff, next_diff}
use Rattle.lx_forms.specs.Lexemes.{Lexeme, sort_at, sorts_at}
use Rattle.lx_forms.specs.Forms as forms
use Rattle.lx_forms.specs.Forms.{Form, IsForm, is_leaf, is_group, is_bare, is_repeated, is_first_post, is_sequence, is_first_cat, is_difference, is_first_diff, is_alternative}

-- where the sorts begin with one, the lexemes begin with one of that sort
split : (text : List Lexeme) (sort : Sort) (sorts : List Sort) → sort ∷ sorts ≡ sorts_at text
    → (lexeme : Lexeme) × (rest : List Lexeme) × (text ≡ lexeme ∷ rest) × (sort_at lexeme ≡ sort) × (sorts ≡ sorts_at rest)
split [] sort sorts same = cc
split (lexeme ∷ rest) sort sorts same = (lexeme, rest, refl, cc, cc)

-- a form of the lexemes from the front of a text, of which the sorts up to the rest are these
abbrev pub HasForm : Part → List Lexeme → List Sort → Type 0
HasForm part text others = (rest : List Lexeme) × (form : Form) × (others ≡ sorts_at rest) × IsForm part text rest form

pub reads_form : (part : Part) (sorts others : List Sort) → Reads part sorts others → (text : List Lexeme) → sorts ≡ sorts_at text
    → HasForm part text others
reads_form part sorts others (sign sort _ is) text same =
    let s = split text sort others same in
    subst (λ t. HasForm part t others) (sym s.2)
    (s.1, forms.leaf s.0, s.4, is_leaf s.0 s.1 (ap is_atom s.3 ∙ is))
reads_form part sorts others (group inner _ read) text same =
    let s = split text Open inner same in
    let body = reads_form _ inner (Close ∷ others) read s.1 s.4 in
    let c = split body.0 Close others body.2 in
    subst (λ t. HasForm part t others) (sym s.2)
    (c.1, forms.group s.0 body.1, c.4, is_group s.0 c.0 s.1 c.1 body.1 s.3 c.3 (subst (λ r. IsForm alt s.1 r body.1) c.2 body.3))
reads_form part sorts others (bare _ _ read) text same =
    let r = reads_form _ sorts others read text same in (r.0, r.1, r.2, is_bare text r.0 r.1 r.3)
reads_form part sorts others (repeated _ _ sort read is) text same =
    let r = reads_form _ sorts (sort ∷ others) read text same in
    let s = split r.0 sort others r.2 in
    (s.1, forms.repeated r.1 s.0, s.4, is_repeated text s.1 s.0 r.1 (subst (λ rest. IsForm post text rest r.1) s.2 r.3) (ap is_postfix s.3 ∙ is))
reads_form part sorts others (first_post _ _ read) text same =
    let r = reads_form _ sorts others read text same in (r.0, r.1, r.2, is_first_post text r.0 r.1 r.3)
reads_form part sorts others (next_post _ middle _ read more) text same =
    let r = reads_form _ sorts middle read text same in
    let m = reads_form _ middle others more r.0 r.2 in
    (m.0, forms.sequence r.1 m.1, m.2, is_sequence text r.0 m.0 r.1 m.1 r.3 m.3)
reads_form part sorts others (first_cat _ _ read) text same =
    let r = reads_form _ sorts others read text same in (r.0, r.1, r.2, is_first_cat text r.0 r.1 r.3)
reads_form part sorts others (next_cat _ middle _ read more) text same =
    let r = reads_form _ sorts (Backslash ∷ middle) read text same in
    let s = split r.0 Backslash middle r.2 in
    let m = reads_form _ middle others more s.1 s.4 in
    (m.0, forms.difference r.1 s.0 m.1, m.2, is_difference text s.1 m.0 s.0 r.1 m.1 s.3 (subst (λ rest. IsForm diff text rest r.1) s.2 r.3) m.3)
reads_form part sorts others (first_diff _ _ read) text same =
    let r = reads_form _ sorts others read text same in (r.0, r.1, r.2, is_first_diff text r.0 r.1 r.3)
reads_form part sorts others (next_diff _ middle _ read more) text same =
    let r = reads_form _ sorts (Bar ∷ middle) read text same in
    let s = split r.0 Bar middle r.2 in
    let m = reads_form _ middle others more s.1 s.4 in
    (m.0, forms.alternative r.1 s.0 m.1, m.2, is_alternative text s.1 m.0 s.0 r.1 m.1 s.3 (subst (λ rest. IsForm alt text rest r.1) s.2 r.3) m.3)

-- an expression has a token at least
pub reads_some : (part : Part) (text rest : List Sort) → Reads part text rest → length rest < length text
reads_some part text rest (sign sort _ is) = omega arith
reads_some part text rest (group inner _ read) = let less = reads_some _ inner (Close ∷ rest) read in omega (arith, less)
reads_some part text rest (bare _ _ read) = reads_some _ text rest read
reads_some part text rest (repeated _ _ sort read is) = let less = reads_some _ text (sort ∷ rest) read in omega (arith, less)
reads_some part text rest (first_post _ _ read) = reads_some _ text rest read
reads_some part text rest (next_post _ middle _ read more) =
    let one = reads_some _ text middle read in let two = reads_some _ middle rest more in omega (arith, one, two)
reads_some part text rest (first_cat _ _ read) = reads_some _ text rest read
reads_some part text rest (next_cat _ middle _ read more) =
    let one = reads_some _ text (Backslash ∷ middle) read in let two = reads_some _ middle rest more in omega (arith, one, two)
reads_some part text rest (first_diff _ _ read) = reads_some _ text rest read
reads_some part text rest (next_diff _ middle _ read more) =
    let one = reads_some _ text (Bar ∷ middle) read in let two = reads_some _ middle rest more in omega (arith, one, two)
