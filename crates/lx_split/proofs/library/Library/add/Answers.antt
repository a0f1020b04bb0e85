use Rattle.std.proofs.Common.{◌≡◌, ◌∙◌, List, ℕ, ap, sym, subst, None, Some, if◌then◌else◌}
use Rattle.std.specs.Str.{bytes_eq}
use Rattle.std.specs.Map.{lookup}
use Rattle.std.proofs.lemmas.Slice.Eq.{bytes_eq-Decides}
use Rattle.indexmap.proofs.CallerLemmas.{insert_entry-new}
use Rattle.lx_split.proofs.LibraryLemmas.{lookup-last}
use Rattle.lx_split.proofs.library.Library.add.Goals as goal

pub returns-clause-added : goal.returns-clause-added
returns-clause-added c =
    let map = c.args.self.now.by_name in
    let name = c.args.name.now in
    let key = c.in_ok-name.name in
    let named = c.in_ok-name.ensures.items ∙ c.as_bytes.ensures.value in
    let absent = subst (λ (text : List ℕ). lookup (λ key. bytes_eq text key.items) map.entries ≡ None) (sym named) c.requires in
    let added = c.in_ok-insert.ensures.entries ∙ insert_entry-new (λ key other. bytes_eq key.items other.items) map key c.args.bytes absent in
    λ other.
    ap (λ entries. lookup (λ key. bytes_eq other key.items) entries) added
    ∙ lookup-last (λ key. bytes_eq other key.items) map.entries key c.args.bytes
    (λ is. let same = (bytes_eq-Decides other key.items).0 is ∙ named in
    subst (λ (text : List ℕ). lookup (λ key. bytes_eq text key.items) map.entries ≡ None) (sym same) c.requires)
    ∙ ap (λ (text : List ℕ). if bytes_eq other text then Some c.args.bytes else lookup (λ key. bytes_eq other key.items) map.entries) named
