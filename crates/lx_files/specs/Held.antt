-- The files that are held: bindings of names to bytes, of which the first under a name counts.
use Rattle.std.specs.Prelude.{◌≡◌, ℕ, List, [], ◌∷◌, ◌++◌, Option, Some, None, IfSome, ◌⊎◌, if◌then◌else◌}
use Rattle.std.specs.Str.{bytes_eq}
use Rattle.lx_files.specs.declared.files.HeldFile.{HeldFile}

-- the bytes under a name, if there are such
abbrev pub bytes_of : List HeldFile → List ℕ → Option (List ℕ)
bytes_of [] name = None
bytes_of (file ∷ files) name = if bytes_eq file.name name then Some file.bytes else bytes_of files name

-- afterwards the name has these bytes, and every other name what it had
abbrev pub Binds : List HeldFile → List HeldFile → (name bytes : List ℕ) → Type 0
Binds before after name bytes =
    (other : List ℕ) → bytes_of after other ≡ (if bytes_eq name other then Some bytes else bytes_of before other)

-- the first list is a front of the second
abbrev pub IsFront : List ℕ → List ℕ → Type 0
IsFront front whole = (rest : List ℕ) × (front ++ rest ≡ whole)

-- afterwards all is as before, or the name has a front of these bytes and every other name what it had
abbrev pub MayBindFront : List HeldFile → List HeldFile → (name bytes : List ℕ) → Type 0
MayBindFront before after name bytes =
    (after ≡ before) ⊎ ((front : List ℕ) × IsFront front bytes × Binds before after name front)

-- a fact on what is held before and after, where it is told before
abbrev pub WhereTold : Option (List HeldFile) → Option (List HeldFile) → (List HeldFile → List HeldFile → Type 0) → Type 0
WhereTold None after fact = Unit {0}
WhereTold (Some files) None fact = ⊥
WhereTold (Some files) (Some files') fact = fact files files'

-- the files as a run saw them: those that are held, where that is told
abbrev pub Sees : Option (List HeldFile) → List HeldFile → Type 0
Sees held seen = IfSome held (λ files. seen ≡ files)
