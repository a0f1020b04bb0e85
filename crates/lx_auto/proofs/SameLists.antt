-- Lists of which the elements have the same images.
use Rattle.std.proofs.Common.{◌≡◌, zero, suc, List, [], ◌∷◌, refl, Contains, ap, subst, arith}
use Rattle.std.specs.Prelude.{map}

-- two functions that give the same on each element of a list
pub map-where : {X Y : Type 0} (f g : X → Y) (xs : List X) → ((x : X) → Contains xs x → f x ≡ g x) → map f xs ≡ map g xs
map-where f g [] same = refl
map-where f g (x ∷ xs) same = λ i. same x (0, omega arith, refl) i ∷ map-where f g xs (λ y has. same y (suc has.0, omega arith, has.2)) i

-- an element of a longer list
pub Contains-later : {X : Type 0} (first : X) (xs : List X) (x : X) → Contains xs x → Contains (first ∷ xs) x
Contains-later first xs x has = (suc has.0, omega arith, has.2)

pub Contains-map : {X Y : Type 0} (f : X → Y) (xs : List X) (x : X) → Contains xs x → Contains (map f xs) (f x)
Contains-map f [] x (place, within, is) = absurd (omega arith)
Contains-map f (first ∷ xs) x (zero, within, is) = (0, omega arith, ap f is)
Contains-map f (first ∷ xs) x (suc place, within, is) =
    Contains-later (f first) (map f xs) (f x) (Contains-map f xs x (place, omega arith, is))

-- where two lists have the same images, each element of the second has one of the first with its image
pub Contains-images : {X Y Z : Type 0} (f : X → Z) (g : Y → Z) (xs : List X) (ys : List Y) → map f xs ≡ map g ys → (y : Y) → Contains ys y
    → (x : X) × Contains xs x × (f x ≡ g y)
Contains-images f g xs [] same y (place, within, is) = absurd (omega arith)
Contains-images f g [] (first ∷ ys) same y has = absurd (cc same)
Contains-images f g (x ∷ xs) (first ∷ ys) same y (zero, within, is) =
    let head : f x ≡ g first = cc same in (x, (0, omega arith, refl), subst (λ e. f x ≡ g e) is head)
Contains-images f g (x ∷ xs) (first ∷ ys) same y (suc place, within, is) =
    let tail : map f xs ≡ map g ys = cc same in
    let found = Contains-images f g xs ys tail y (place, omega arith, is) in
    (found.0, Contains-later x xs found.0 found.1, found.2)

-- an image of a list is that of an element
pub map-Contains : {X Y : Type 0} (f : X → Y) (xs : List X) (y : Y) → Contains (map f xs) y → (x : X) × Contains xs x × (f x ≡ y)
map-Contains f [] y (place, within, is) = absurd (omega arith)
map-Contains f (x ∷ xs) y (zero, within, is) = (x, (0, omega arith, refl), is)
map-Contains f (x ∷ xs) y (suc place, within, is) =
    let found = map-Contains f xs y (place, omega arith, is) in (found.0, Contains-later x xs found.0 found.1, found.2)
