-- The command is a simple one, so that its reading of words is known.
use Rattle.std.proofs.Common.{◌≡◌, ◌∙◌, ℕ, List, [], ◌∷◌, true, false, refl, sym, ap, inl, inr}
use Rattle.clap.specs.Words.{App, HasKind, HasMatchesOf, IsAmong, Kinds, fault_of, found_of, is_simple, is_simple_and_free, matches_of, rows_of}
use Rattle.clap.specs.declared.parser.matches.ArgMatches.{ArgMatches}
use Rattle.clap.specs.declared.error.Error.{Error}
use Rattle.clap.specs.declared.error.kind.ErrorKind.{ErrorKind}
use Rattle.clap.specs.Values.{kind_of}
use Rattle.clap.proofs.OnLiterals.{clap_on_literals}
use Rattle.lx_base.specs.declared.faults.Stop.{Stop}
use Rattle.lx_base.specs.declared.faults.Stop.TheVariants as stop
use Rattle.lx_words.specs.Command.{words_command}
use Rattle.lx_words.specs.Line.{is_refused, line_of}
use Rattle.lx_words.specs.Options.{IsRefusal, StopsBy, refusal_of}

pub is_simple_and_free-words_command : is_simple_and_free words_command ≡ true
unfolding clap_on_literals
is_simple_and_free-words_command = refl

pub is_simple-words_command : is_simple words_command ≡ true
unfolding clap_on_literals
is_simple-words_command = refl

-- a command that is this one finds nothing to refuse
pub not_refused : (command : App) (words : List (List ℕ)) → command ≡ words_command
    → (is_simple_and_free command ≡ true → fault_of command words ≡ []) → is_refused words ≡ false
unfolding is_refused
not_refused command words same fits =
    let none : fault_of words_command words ≡ [] =
    ap (λ app. fault_of app words) (sym same) ∙ fits (ap is_simple_and_free same ∙ is_simple_and_free-words_command) in
    rw none refl

-- what a command that is this one found
pub read_rows : (command : App) (words : List (List ℕ)) (line : ArgMatches) → command ≡ words_command
    → HasMatchesOf command words line → rows_of (found_of line) ≡ line_of words
unfolding line_of
read_rows command words line same reads =
    (reads (ap is_simple same ∙ is_simple-words_command)).0 ∙ ap (λ app. matches_of app words) same

-- a kind of fault that it finds refuses the words
is_refused-among : (words : List (List ℕ)) (kinds : Kinds) (error : Error) → fault_of words_command words ≡ kinds → IsAmong (kind_of error) kinds → is_refused words ≡ true
unfolding is_refused
is_refused-among words [] error found among = elim among [ ]
is_refused-among words (kind ∷ kinds) error found among = rw found refl

pub refusal-stops : (command : App) (words : List (List ℕ)) (error : Error) (kind : ErrorKind) (stopped : Stop) → command ≡ words_command
    → (is_simple_and_free command ≡ true → HasKind (fault_of command words) error) → kind ≡ kind_of error → IsRefusal kind stopped → StopsBy (refusal_of words) stopped
refusal-stops command words error kind stop.Memory same fits kind_is refusal = tt
refusal-stops command words error kind (stop.Fault fault) same fits kind_is refusal = elim (fits (ap is_simple_and_free same ∙ is_simple_and_free-words_command)) [
  | inl memory ↦ absurd (refusal.0 (kind_is ∙ memory))
  | inr among ↦
      let yes : is_refused words ≡ true = is_refused-among words (fault_of command words) error (ap (λ app. fault_of app words) (sym same)) among in
      rw (yes, refusal.1) refl
]
