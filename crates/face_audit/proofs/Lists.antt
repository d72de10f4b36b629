-- Lists of triangles by their sides: what is among the sides, how often, and from which names.
use Rattle.std.proofs.Common.{◌≡◌, ℕ, ◌<◌, ◌≤◌, Bool, false, ◌||◌, eqb, List, [], ◌∷◌, sym, ap, ◌∙◌, refl, arith, All}
use Rattle.std.proofs.lemmas.Bool.{ne_eqb, false_from_ne_true}
use Rattle.std.proofs.lemmas.List.Elements.{recursion_from_All}
use Rattle.std.proofs.lemmas.List.Folds.{list_any-append}
use Rattle.std.specs.List.{list_any, AllByRecursion}
use Rattle.mesh_data.specs.declared.geometry.Edge.{Edge}
use Rattle.mesh_data.specs.declared.geometry.Tri.{Tri}
use Rattle.mesh_data.specs.Manifold.{times, is_corner}
use Rattle.mesh_data.specs.Triangles.{IsBelow, same_edge, sides, directed_edges}
use Rattle.triangle_lists.proofs.Counts.{often, one_if, often_is}
use Rattle.triangle_lists.proofs.EdgeSets.{same_edges}

pub any_sides : (p : Edge → Bool) (ts : List Tri) → list_any p (directed_edges ts) ≡ list_any (λ t. list_any p (sides t)) ts
any_sides p [] = refl
any_sides p (t ∷ ts) = list_any-append p (sides t) (directed_edges ts) ∙ ap (λ (b : Bool). list_any p (sides t) || b) (any_sides p ts)

pub times_often : (ts : List Tri) (e : Edge) → times ts e ≡ often (same_edge e) (directed_edges ts)
times_often ts e = sym (often_is (same_edge e) (directed_edges ts))

-- ---- names below a bound

-- each side of these triangles begins below the bound
pub sides_below : (n : ℕ) (ts : List Tri) → AllByRecursion (IsBelow n) ts → AllByRecursion (λ e. e.a < n) (directed_edges ts)
sides_below n [] below = tt
sides_below n (t ∷ ts) below = (below.0.0, (below.0.1, (below.0.2, sides_below n ts below.1)))

apart_from : (n : ℕ) (e d : Edge) → n ≤ e.a → d.a < n → same_edge e d ≡ false
apart_from n e d above below =
    false_from_ne_true (same_edge e d) (λ same. let is : e.a ≡ d.a = ap (λ (f : Edge). f.a) (same_edges e d same) in omega (arith, is, above, below))

never_from : (n : ℕ) (e : Edge) (es : List Edge) → n ≤ e.a → AllByRecursion (λ d. d.a < n) es → often (same_edge e) es ≡ 0
never_from n e [] above below = refl
never_from n e (d ∷ es) above below = omega (arith, ap one_if (apart_from n e d above below.0), never_from n e es above below.1)

-- no triangle has an edge from above all names
pub none_from_above : (n : ℕ) (ts : List Tri) (e : Edge) → All (IsBelow n) ts → n ≤ e.a → times ts e ≡ 0
none_from_above n ts e below above = times_often ts e ∙ never_from n e (directed_edges ts) above (sides_below n ts (recursion_from_All (IsBelow n) ts below))

other_name : (n a v : ℕ) → n ≤ v → a < n → eqb a v ≡ false
other_name n a v above below = ne_eqb a v (λ same. omega (arith, same, above, below))

no_corner_by_recursion : (n v : ℕ) (ts : List Tri) → n ≤ v → AllByRecursion (IsBelow n) ts → is_corner ts v ≡ false
no_corner_by_recursion n v [] above below = refl
no_corner_by_recursion n v (t ∷ ts) above below =
    λ i. ((other_name n t.a v above below.0.0 i || other_name n t.b v above below.0.1 i) || other_name n t.c v above below.0.2 i) || no_corner_by_recursion n v ts above below.1 i

-- none has a corner above all names
pub no_corner_above : (n v : ℕ) (ts : List Tri) → All (IsBelow n) ts → n ≤ v → is_corner ts v ≡ false
no_corner_above n v ts below above = no_corner_by_recursion n v ts above (recursion_from_All (IsBelow n) ts below)
