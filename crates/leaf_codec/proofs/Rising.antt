-- Lists whose units keep their rules rise.
use Rattle.std.proofs.Common.{Option, ◌≡◌, ℕ, ◌<◌, ◌-◌, true, List, [], ◌∷◌, ◌++◌, length, map, slice_index, append_assoc, arith, inl, inr, eqb, ltb, ◌⊎◌, map-id, Ok}
use Rattle.std.specs.List.Sorted.{IsStrictlyIncreasing}
use Rattle.std.proofs.lemmas.Bool.{or_cases, and_parts, eqb-true, ltb-true}
use Rattle.std.proofs.lemmas.List.{append-nil, map_push}
use Rattle.oemm_lists.specs.Ascending.{IsAboveLast}
use Rattle.oemm_lists.proofs.Increasing.{IsStrictlyIncreasing-push}
use Rattle.sheet_data.specs.Summed.{SummedVertex}
use Rattle.byte_grammar.specs.Reader.{number, unit, many, IsBytes}
use Rattle.byte_grammar.specs.Keeps.{Keeps}
use Rattle.leaf_codec.specs.Sheets.{is_above, names_of, vertex_follows, leaf_follows, vertex}
use Rattle.leaf_codec.proofs.SheetSpells.{VertexRule, LeafRule, Spells-vertices, Spells-leaves}

above : (n : ℕ) (ns : List ℕ) → is_above n ns ≡ true → IsAboveLast n ns
unfolding is_above
above n ns e some = by (or_cases (eqb (length ns) 0) (ltb (slice_index ns (length ns - 1)) n) e) where
  by : ((eqb (length ns) 0 ≡ true) ⊎ (ltb (slice_index ns (length ns - 1)) n ≡ true))
      → slice_index ns (length ns - 1) < n
  by (inl none) = let z : length ns ≡ 0 = eqb-true _ _ none in absurd (omega arith)
  by (inr lt) = ltb-true _ _ lt

pub rises : {A : Type 0} (f : A → ℕ) (Rule : List A → A → Type 0)
    → ((before : List A) (x : A) → Rule before x → is_above (f x) (map f before) ≡ true)
    → (xs before : List A) → IsStrictlyIncreasing (map f before) → Keeps Rule before xs
    → IsStrictlyIncreasing (map f (before ++ xs))
rises f Rule up [] before so_far h = rw (append-nil before) so_far
rises f Rule up (x ∷ xs) before so_far h =
    let next : IsStrictlyIncreasing (map f (before ++ x ∷ [])) =
    rw (map_push f before x)
    (IsStrictlyIncreasing-push (map f before) (f x) so_far (above (f x) (map f before) (up before x h.0))) in
    rw (← append_assoc before (x ∷ []) xs) (rises f Rule up xs (before ++ x ∷ []) next h.1)

vertices_rise : (vs : List SummedVertex) → Keeps VertexRule [] vs → IsStrictlyIncreasing (names_of vs)
unfolding vertex_follows
vertices_rise vs h =
    rises (λ (v : SummedVertex). v.name) VertexRule (λ before v k. k.1) vs [] (λ k lt. absurd (omega arith)) h

leaves_rise : (out : Option ℕ) (ns : List ℕ) → Keeps (LeafRule out) [] ns → IsStrictlyIncreasing ns
unfolding leaf_follows
leaves_rise out ns h =
    rw (← map-id ns)
    (rises (λ (n : ℕ). n) (LeafRule out) (λ before n k. rw (map-id before) (and_parts _ _ k.1).0) ns []
    (λ k lt. absurd (omega arith)) h)

-- the vertices and the leaves that were read rise
pub read_vertices_rise : (n : ℕ) (left : List ℕ) (vs : List SummedVertex) (rest : List ℕ) → IsBytes left
    → many (λ before. unit (vertex_follows before) vertex) n [] left ≡ Ok (vs, rest)
    → IsStrictlyIncreasing (names_of vs)
read_vertices_rise n left vs rest fits e = vertices_rise vs ((Spells-vertices n).takes left vs rest fits e).1.1

pub read_leaves_rise : (out : Option ℕ) (n : ℕ) (left ns rest : List ℕ) → IsBytes left
    → many (λ before. unit (leaf_follows out before) (number 4)) n [] left ≡ Ok (ns, rest) → IsStrictlyIncreasing ns
read_leaves_rise out n left ns rest fits e = leaves_rise out ns ((Spells-leaves out n).takes left ns rest fits e).1.1
