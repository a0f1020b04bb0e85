-- What is known of files by reading them.
use Rattle.std.specs.Prelude.{◌≡◌, ℕ, List, Option, Some, None, option_and_then}
use Rattle.std.specs.Map.{lookup}
use Rattle.std.specs.Option.{option_map}
use Rattle.std.specs.Str.{bytes_eq}
use Rattle.lx_files.specs.Held.{Sees, bytes_of}
use Rattle.lx_files.specs.declared.files.HeldFile.{HeldFile}
use Rattle.lx_split.specs.declared.library.Library.{Library}

-- what is known of a name: the bytes of its file, or that there is none; or nothing
abbrev pub known : Library → (name : List ℕ) → Option (Option (List ℕ))
known library name = lookup (λ key. bytes_eq name key.items) library.by_name.entries

-- the bytes that are known of a name
abbrev pub known_bytes : Library → (name : List ℕ) → Option (List ℕ)
known_bytes library name = option_and_then (λ bytes. bytes) (known library name)

-- the file of a name, if there is a name and its bytes are known
abbrev pub known_file : Library → Option (List ℕ) → Option HeldFile
known_file library None = None
known_file library (Some name) = option_map (λ bytes. record { name = name; bytes = bytes }) (known_bytes library name)

-- what is known of files is what these hold
abbrev pub Agrees : (seen : List HeldFile) → Library → Type 0
Agrees seen library = (name : List ℕ) (answer : Option (List ℕ)) → known library name ≡ Some answer → bytes_of seen name ≡ answer

-- there are such files; where it is not told what is held, they have no other names
pub record IsReadFrom (held : Option (List HeldFile)) (library : Library) : Type 0 where
  pub seen : List HeldFile
  pub sees : Sees held seen
  pub agrees : Agrees seen library
  pub others : held ≡ None → (name : List ℕ) → known library name ≡ None → bytes_of seen name ≡ None

-- more is known than before, and it was read from the same files
pub record ReadsOn (held : Option (List HeldFile)) (before after : Library) : Type 0 where
  pub agrees : (seen : List HeldFile) → Agrees seen after → Agrees seen before
  pub read : IsReadFrom held before → IsReadFrom held after
