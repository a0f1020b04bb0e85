-- Images of options and of lists.
use Rattle.std.proofs.Common.{◌≡◌, ℕ, ◌+◌, ◌<◌, ◌≤◌, List, [], ◌∷◌, ◌++◌, length, get_or, take, Option, Some, None, refl, sym, ap, ◌∙◌, arith}
use Rattle.std.specs.Prelude.{IsSome, map, option_map, slice_get}
use Rattle.std.proofs.lemmas.List.{take_all, take_more}
use Rattle.std.proofs.lemmas.Option.{slice_get-map}

-- what has an image has one that is something
pub option_map-some : {X Y : Type 0} (f : X → Y) (found : Option X) (y : Y) → option_map f found ≡ Some y
    → (x : X) × (found ≡ Some x) × (f x ≡ y)
option_map-some f None y is = absurd (cc is)
option_map-some f (Some x) y is = let same : f x ≡ y = cc is in (x, refl, same)

pub option_map-is_some : {X Y : Type 0} (f : X → Y) (found : Option X) → IsSome (option_map f found) → IsSome found
option_map-is_some f None some = some
option_map-is_some f (Some x) some = some

pub is_some-option_map : {X Y : Type 0} (f : X → Y) (found : Option X) → IsSome found → IsSome (option_map f found)
is_some-option_map f None some = some
is_some-option_map f (Some x) some = some

-- the element of a list by its image
pub slice_get-image : {X Y : Type 0} (f : X → Y) (xs : List X) (place : ℕ) (y : Y) → slice_get (map f xs) place ≡ Some y
    → (x : X) × (slice_get xs place ≡ Some x) × (f x ≡ y)
slice_get-image f xs place y is = option_map-some f (slice_get xs place) y (sym (slice_get-map f xs place) ∙ is)

-- images of images
pub map-map : {X Y Z : Type 0} (f : Y → Z) (g : X → Y) (xs : List X) → map f (map g xs) ≡ map (λ x. f (g x)) xs
map-map f g [] = refl
map-map f g (x ∷ xs) = ap (λ ys. f (g x) ∷ ys) (map-map f g xs)

map-append : {X Y : Type 0} (f : X → Y) (xs : List X) (x : X) → map f (xs ++ x ∷ []) ≡ map f xs ++ f x ∷ []
map-append f [] x = refl
map-append f (first ∷ xs) x = ap (λ ys. f first ∷ ys) (map-append f xs x)

-- two lists with the same images up to a place, and at the place
pub map-take_more : {X Y : Type 0} (f g : X → Y) (place : ℕ) (xs ys : List X) (x y : X) → place < length xs → length xs ≡ length ys
    → x ≡ get_or xs place x → y ≡ get_or ys place y → f y ≡ g x → map f (take place ys) ≡ map g (take place xs)
    → map f (take (place + 1) ys) ≡ map g (take (place + 1) xs)
map-take_more f g place xs ys x y within long first second same before =
    ap (map f) (take_more ys place y (omega arith))
    ∙ map-append f (take place ys) (get_or ys place y)
    ∙ (λ i. before i ++ f (sym second i) ∷ [])
    ∙ ap (λ image. map g (take place xs) ++ image ∷ []) (same ∙ ap g first)
    ∙ sym (map-append g (take place xs) (get_or xs place x))
    ∙ ap (map g) (sym (take_more xs place x within))

pub map-take_all : {X Y : Type 0} (f g : X → Y) (place : ℕ) (xs ys : List X) → length xs ≤ place → length xs ≡ length ys
    → map f (take place ys) ≡ map g (take place xs) → map f ys ≡ map g xs
map-take_all f g place xs ys past long same =
    ap (map f) (sym (take_all place ys (omega arith))) ∙ same ∙ ap (map g) (take_all place xs past)
