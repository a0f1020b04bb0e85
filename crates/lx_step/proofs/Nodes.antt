-- The contents of nodes.
use Rattle.std.proofs.Common.{◌≡◌, ◌∙◌, sym, subst, reverse, ap, refl, ℕ, zero, suc, ◌+◌, ◌<◌, ◌≤◌, List, [], ◌∷◌, ◌++◌, length, map, set, get_or, replicate, append_assoc, length-append, arith, Option, Some, None}
use Rattle.std.proofs.lemmas.List.{get_or_append_left, map-set, length-map, reverse-append}
use Rattle.std.proofs.Math.Seq.{get_or-append_seam}
use Rattle.std.specs.List.{AllByRecursion}
use Rattle.lx_step.specs.declared.histories.Node.{Node}
use Rattle.lx_step.specs.Nodes.{content_at, contents_behind, contents, IsBelow, AreInOrder, AreBelow}

abbrev Content : Type 0
Content = List (Option ℕ)

-- what a node has, behind the contents of others
abbrev pub grown : List Content → Node → Content
grown done node = content_at done node.before ++ node.entry ∷ []

pub contents_behind-append : (done : List Content) (nodes : List Node) (node : Node)
    → contents_behind done (nodes ++ node ∷ []) ≡ contents_behind done nodes ++ grown (contents_behind done nodes) node ∷ []
contents_behind-append done [] node = refl
contents_behind-append done (first ∷ nodes) node = contents_behind-append (done ++ grown done first ∷ []) nodes node

pub length-contents_behind : (done : List Content) (nodes : List Node) → length (contents_behind done nodes) ≡ length done + length nodes
length-contents_behind done [] = omega arith
length-contents_behind done (first ∷ nodes) = omega (arith, length-contents_behind (done ++ grown done first ∷ []) nodes, length-append done (grown done first ∷ []))

content_at-more : (done : List Content) (more : Content) (last : Option ℕ) → IsBelow (length done) last → content_at (done ++ more ∷ []) last ≡ content_at done last
content_at-more done more None h = refl
content_at-more done more (Some place) h = get_or_append_left done (more ∷ []) [] place h

map-content_at-more : (done : List Content) (more : Content) (lasts : List (Option ℕ)) → AllByRecursion (IsBelow (length done)) lasts
    → map (content_at (done ++ more ∷ [])) lasts ≡ map (content_at done) lasts
map-content_at-more done more [] h = refl
map-content_at-more done more (last ∷ lasts) h =
    let first : content_at (done ++ more ∷ []) last ≡ content_at done last = content_at-more done more last h.0 in
    let others : map (content_at (done ++ more ∷ [])) lasts ≡ map (content_at done) lasts = map-content_at-more done more lasts h.1 in
    cc

pub get_or-map-content_at : (done : List Content) (lasts : List (Option ℕ)) (place : ℕ) (last : Option ℕ) → place < length lasts
    → get_or (map (content_at done) lasts) place [] ≡ content_at done (get_or lasts place last)
get_or-map-content_at done [] place last h = absurd (omega (arith, h))
get_or-map-content_at done (first ∷ lasts) zero last h = refl
get_or-map-content_at done (first ∷ lasts) (suc place) last h = get_or-map-content_at done lasts place last (omega (arith, h))

-- ---- a node more

pub view-append : (lasts : List (Option ℕ)) (nodes : List Node) (place : ℕ) (node : Node) (count : ℕ) → AreBelow lasts nodes → place < length lasts
    → node.before ≡ get_or lasts place node.before → count ≡ length nodes
    → map (content_at (contents (nodes ++ node ∷ []))) (set lasts place (Some count))
    ≡ set (map (content_at (contents nodes)) lasts) place (get_or (map (content_at (contents nodes)) lasts) place [] ++ node.entry ∷ [])
view-append lasts nodes place node count below h before e =
    let done : List Content = contents nodes in
    let many : length done ≡ length nodes = length-contents_behind [] nodes ∙ omega arith in
    let at_end : get_or (done ++ grown done node ∷ []) count [] ≡ grown done node = ap (λ n. get_or (done ++ grown done node ∷ []) n []) (e ∙ sym many) ∙ get_or-append_seam done (grown done node) [] [] in
    let kept : map (content_at (done ++ grown done node ∷ [])) lasts ≡ map (content_at done) lasts =
    map-content_at-more done (grown done node) lasts (let P : ℕ → Type 0 = λ n. AllByRecursion (IsBelow n) lasts in subst P (sym many) below.each) in
    let own : content_at done node.before ≡ get_or (map (content_at done) lasts) place [] = ap (content_at done) before ∙ sym (get_or-map-content_at done lasts place node.before h) in
    ap (λ all. map (content_at all) (set lasts place (Some count))) (contents_behind-append [] nodes node)
    ∙ map-set (content_at (done ++ grown done node ∷ [])) lasts place (Some count)
    ∙ ap (λ all. set all place (get_or (done ++ grown done node ∷ []) count [])) kept
    ∙ ap (λ content. set (map (content_at done) lasts) place content) (at_end ∙ ap (λ content. content ++ node.entry ∷ []) own)

below-more : (count more : ℕ) (last : Option ℕ) → count ≤ more → IsBelow count last → IsBelow more last
below-more count more None h below = tt
below-more count more (Some place) h below = omega (arith, h, below)

each-more : (count more : ℕ) (lasts : List (Option ℕ)) → count ≤ more → AllByRecursion (IsBelow count) lasts → AllByRecursion (IsBelow more) lasts
each-more count more [] h each = tt
each-more count more (last ∷ lasts) h each = (below-more count more last h each.0, each-more count more lasts h each.1)

each-set : (count : ℕ) (lasts : List (Option ℕ)) (place : ℕ) (last : Option ℕ) → IsBelow count last → AllByRecursion (IsBelow count) lasts → AllByRecursion (IsBelow count) (set lasts place last)
each-set count [] place last h each = tt
each-set count (first ∷ lasts) zero last h each = (h, each.1)
each-set count (first ∷ lasts) (suc place) last h each = (each.0, each-set count lasts place last h each.1)

pub each-get_or : (count : ℕ) (lasts : List (Option ℕ)) (place : ℕ) (last : Option ℕ) → place < length lasts → AllByRecursion (IsBelow count) lasts → IsBelow count (get_or lasts place last)
each-get_or count [] place last h each = absurd (omega (arith, h))
each-get_or count (first ∷ lasts) zero last h each = each.0
each-get_or count (first ∷ lasts) (suc place) last h each = each-get_or count lasts place last (omega (arith, h)) each.1

in_order-more : (count : ℕ) (nodes : List Node) (node : Node) → AreInOrder count nodes → IsBelow (count + length nodes) node.before → AreInOrder count (nodes ++ node ∷ [])
in_order-more count [] node h below = (below-more (count + 0) count node.before (omega arith) below, tt)
in_order-more count (first ∷ nodes) node h below =
    (h.0, in_order-more (suc count) nodes node h.1 (below-more (count + suc (length nodes)) (suc count + length nodes) node.before (omega arith) below))

pub AreBelow-append : (lasts : List (Option ℕ)) (nodes : List Node) (place : ℕ) (node : Node) (count : ℕ) → AreBelow lasts nodes → place < length lasts
    → node.before ≡ get_or lasts place node.before → count ≡ length nodes → AreBelow (set lasts place (Some count)) (nodes ++ node ∷ [])
AreBelow-append lasts nodes place node count below h before e =
    let many : length (nodes ++ node ∷ []) ≡ length nodes + 1 = length-append nodes (node ∷ []) in
    let here : IsBelow (length nodes) node.before = subst (IsBelow (length nodes)) (sym before) (each-get_or (length nodes) lasts place node.before h below.each) in
    record {
      each = each-set (length (nodes ++ node ∷ [])) lasts place (Some count) (omega (arith, e, many)) (each-more (length nodes) (length (nodes ++ node ∷ [])) lasts (omega (arith, many)) below.each);
      in_order = in_order-more 0 nodes node below.in_order (below-more (length nodes) (0 + length nodes) node.before (omega arith) here);
    }

-- ---- the content of a node

contents_behind-front : (done : List Content) (nodes : List Node) (place : ℕ) → place < length done → get_or (contents_behind done nodes) place [] ≡ get_or done place []
contents_behind-front done [] place h = refl
contents_behind-front done (first ∷ nodes) place h =
    contents_behind-front (done ++ grown done first ∷ []) nodes place (omega (arith, h, length-append done (grown done first ∷ []))) ∙ get_or_append_left done (grown done first ∷ []) [] place h

content_at-front : (done : List Content) (nodes : List Node) (last : Option ℕ) → IsBelow (length done) last → content_at (contents_behind done nodes) last ≡ content_at done last
content_at-front done nodes None h = refl
content_at-front done nodes (Some place) h = contents_behind-front done nodes place h

content_of_node : (done : List Content) (nodes : List Node) (place : ℕ) (node : Node) → AreInOrder (length done) nodes → place < length nodes → node ≡ get_or nodes place node
    → get_or (contents_behind done nodes) (length done + place) [] ≡ grown (contents_behind done nodes) node
content_of_node done [] place node order h e = absurd (omega (arith, h))
content_of_node done (first ∷ nodes) zero node order h e =
    let more : List Content = done ++ grown done first ∷ [] in
    let longer : length more ≡ length done + 1 = length-append done (grown done first ∷ []) in
    let at : get_or (contents_behind more nodes) (length done + 0) [] ≡ get_or (contents_behind more nodes) (length done) [] = ap (λ n. get_or (contents_behind more nodes) n []) (omega arith) in
    let own : content_at (contents_behind more nodes) first.before ≡ content_at done first.before =
    content_at-front more nodes first.before (below-more (length done) (length more) first.before (omega (arith, longer)) order.0) ∙ content_at-more done (grown done first) first.before order.0 in
    at ∙ contents_behind-front more nodes (length done) (omega (arith, longer)) ∙ get_or-append_seam done (grown done first) [] []
    ∙ ap (λ content. content ++ first.entry ∷ []) (sym own) ∙ ap (λ one. grown (contents_behind more nodes) one) (sym e)
content_of_node done (first ∷ nodes) (suc place) node order h e =
    let more : List Content = done ++ grown done first ∷ [] in
    let longer : length more ≡ suc (length done) = length-append done (grown done first ∷ []) ∙ omega arith in
    ap (λ n. get_or (contents_behind more nodes) n []) (let sum : length done + suc place ≡ length more + place = omega (arith, longer) in sum)
    ∙ content_of_node more nodes place node (subst (λ n. AreInOrder n nodes) (sym longer) order.1) (omega (arith, h)) e

pub content_at-node : (nodes : List Node) (place : ℕ) (node : Node) → AreInOrder 0 nodes → place < length nodes → node ≡ get_or nodes place node
    → content_at (contents nodes) (Some place) ≡ content_at (contents nodes) node.before ++ node.entry ∷ []
content_at-node nodes place node order h e =
    ap (λ n. get_or (contents nodes) n []) (let sum : place ≡ 0 + place = omega arith in sum) ∙ content_of_node [] nodes place node order h e

before_from : (count : ℕ) (nodes : List Node) (place : ℕ) (node : Node) → AreInOrder count nodes → place < length nodes → node ≡ get_or nodes place node → IsBelow (count + place) node.before
before_from count [] place node order h e = absurd (omega (arith, h))
before_from count (first ∷ nodes) zero node order h e =
    below-more count (count + 0) node.before (omega arith) (subst (λ (one : Node). IsBelow count one.before) (sym e) order.0)
before_from count (first ∷ nodes) (suc place) node order h e =
    below-more (suc count + place) (count + suc place) node.before (omega arith) (before_from (suc count) nodes place node order.1 (omega (arith, h)) e)

-- the one before a node stands before it
pub IsBelow-before : (nodes : List Node) (place : ℕ) (node : Node) → AreInOrder 0 nodes → place < length nodes → node ≡ get_or nodes place node → IsBelow place node.before
IsBelow-before nodes place node order h e = below-more (0 + place) place node.before (omega arith) (before_from 0 nodes place node order h e)

pub map-empty : (count : ℕ) → map (content_at (contents [])) (replicate count None) ≡ replicate count []
map-empty zero = refl
map-empty (suc count) = ap (λ rest. [] ∷ rest) (map-empty count)

-- there are as many histories as last nodes
pub length-view : (done : List Content) (lasts : List (Option ℕ)) (value : List Content) → map (content_at done) lasts ≡ value → length lasts ≡ length value
length-view done lasts value e = sym (length-map lasts (content_at done)) ∙ ap length e

-- ---- the entries, from the last one on

-- how many nodes may still come
abbrev pub depth : Option ℕ → ℕ
depth None = 0
depth (Some place) = suc place

pub depth-below : (place : ℕ) (before : Option ℕ) → IsBelow place before → depth before < suc place
depth-below place None h = omega arith
depth-below place (Some other) h = omega (arith, h)

pub depth-before : (nodes : List Node) (place : ℕ) (last : Option ℕ) (node : Node) → AreInOrder 0 nodes → last ≡ Some place → IsBelow (length nodes) last → node ≡ get_or nodes place node
    → depth node.before < depth last
depth-before nodes place last node order is below e =
    let h : place < length nodes = subst (IsBelow (length nodes)) is below in
    rw is (depth-below place node.before (IsBelow-before nodes place node order h e))

pub below-before : (nodes : List Node) (place : ℕ) (last : Option ℕ) (node : Node) → AreInOrder 0 nodes → last ≡ Some place → IsBelow (length nodes) last → node ≡ get_or nodes place node
    → IsBelow (length nodes) node.before
below-before nodes place last node order is below e =
    let h : place < length nodes = subst (IsBelow (length nodes)) is below in
    below-more place (length nodes) node.before (omega (arith, h)) (IsBelow-before nodes place node order h e)

pub split-before : (nodes : List Node) (place : ℕ) (last : Option ℕ) (node : Node) (entries total : Content) → AreInOrder 0 nodes → last ≡ Some place → IsBelow (length nodes) last → node ≡ get_or nodes place node
    → content_at (contents nodes) last ++ reverse entries ≡ total → content_at (contents nodes) node.before ++ reverse (entries ++ node.entry ∷ []) ≡ total
split-before nodes place last node entries total order is below e split =
    let h : place < length nodes = subst (IsBelow (length nodes)) is below in
    ap (λ others. content_at (contents nodes) node.before ++ others) (reverse-append entries (node.entry ∷ []))
    ∙ sym (append_assoc (content_at (contents nodes) node.before) (node.entry ∷ []) (reverse entries))
    ∙ ap (λ content. content ++ reverse entries) (sym (content_at-node nodes place node order h e) ∙ ap (content_at (contents nodes)) (sym is))
    ∙ split
