-- What a line of an element declares, and what is wrong with it.
use Rattle.std.proofs.Common.{◌≡◌, ◌≢◌, ℕ, ◌^◌, ◌<◌, ◌≤◌, true, false, Bool, nat_lt, List, [], ◌∷◌, Some, None, Result, Ok, Err, codes, refl, ap, ◌∙◌}
use Rattle.std.proofs.lemmas.Bool.{le-leb, le-ltb, lt-leb, lt-ltb}
use Rattle.oemm_limits.specs.declared.TheConstants.{MOST_ITEMS}
use Rattle.oemm_limits.specs.declared.what.What.TheVariants as limits
use Rattle.mesh_items.specs.declared.items.MeshWhy.TheVariants.{HeadLine, Number}
use Rattle.mesh_items.specs.declared.items.MeshFault.{MeshFault}
use Rattle.mesh_items.specs.declared.items.MeshFault.TheVariants.{Text, TooMany}
use Rattle.mesh_items.specs.Results.{◌>>=◌, only_if}
use Rattle.oemm_lines.specs.Numbers.{unsigned_of}
use Rattle.ply_header.specs.declared.layout.ByteOrder.{ByteOrder}
use Rattle.ply_header.specs.declared.layout.Role.{Role}
use Rattle.ply_header.specs.declared.layout.Role.TheVariants.{Vertices, Faces, Foreign}
use Rattle.ply_header.specs.declared.layout.Element.{Element}
use Rattle.ply_header.specs.declared.layout.Header.{Header}
use Rattle.ply_header.specs.Limits.{HasFew}
use Rattle.ply_header.specs.Header.{at_line_end, closed, count_of, declared_by, header_after, is_remark, last_count_of, limited, role_fault, role_named, with_element}
use Rattle.ply_laws.specs.Elements.{HasFace, HasVertex, MayCome, element_line}
use Rattle.ply_laws.proofs.ClosedLaws.{has_vertex, has_no_face, has_no_vertex}
use Rattle.ply_laws.proofs.HeaderLaws.{element_declares, differ, some_there}

-- a line that declares neither an element nor a property
pub other_line : (h : Header) (order : ByteOrder) (at : ℕ) (word : List ℕ) (words : List (List ℕ)) → h.order ≡ Some order → is_remark word ≡ false → word ≢ codes "element" → word ≢ codes "property" → header_after h at (word ∷ words) ≡ Err (Text at HeadLine)
unfolding header_after declared_by
other_line h order at word words known declares element property = rw (declares, known, differ word (codes "element") element, differ word (codes "property") property)

-- nothing is wrong with an element that may come next
vertices_right : (h : Header) → (closed h).vertex ≡ None → role_fault Vertices (closed h) ≡ None
vertices_right h new = rw new

faces_right : (h : Header) (vertex : Element) → (closed h).vertex ≡ Some vertex → (closed h).face ≡ None → role_fault Faces (closed h) ≡ None
faces_right h vertex there new = rw (there, new)

may_come : (h : Header) (role : Role) → MayCome role h → role_fault role (closed h) ≡ None
may_come h Vertices never = vertices_right h (has_no_vertex h never)
may_come h Faces (there, never) =
    let vertex = some_there (closed h).vertex (has_vertex h there) in
    faces_right h vertex.0 vertex.1 (has_no_face h never)
may_come h Foreign any = refl

-- the header with an element behind it, and an element that may come next, by its count
abbrev with_count : Header → Role → ℕ → Header
with_count h role n = record (closed h) { last = Some (record { role = role; count = n; properties = [] }) }

element_by : (h : Header) (at : ℕ) (name : List ℕ) (words : List (List ℕ)) (count : Result ℕ MeshFault) → role_fault (role_named name) (closed h) ≡ None → last_count_of at (role_named name) words ≡ count →
    with_element h at (name ∷ words) ≡ (count >>= λ n. Ok (with_count h (role_named name) n))
unfolding with_element
element_by h at name words count right is = rw (right, is)

-- the line of such an element
line_by : (h : Header) (order : ByteOrder) (at : ℕ) (name : List ℕ) (words : List (List ℕ)) (count : Result ℕ MeshFault) → h.order ≡ Some order → MayCome (role_named name) h → last_count_of at (role_named name) words ≡ count →
    header_after h at (element_line (name ∷ words)) ≡ (count >>= λ n. Ok (with_count h (role_named name) n))
line_by h order at name words count known may is =
    element_declares h order at (name ∷ words) known ∙ element_by h at name words count (may_come h (role_named name) may) is

-- an element without a name, and one without a count
nameless : (h : Header) (at : ℕ) → with_element h at [] ≡ Err (Text at HeadLine)
unfolding with_element
nameless h at = refl

pub no_name : (h : Header) (order : ByteOrder) (at : ℕ) → h.order ≡ Some order → header_after h at (element_line []) ≡ Err (Text at HeadLine)
no_name h order at known = element_declares h order at [] known ∙ nameless h at

pub no_count : (h : Header) (order : ByteOrder) (at : ℕ) (name : List ℕ) → h.order ≡ Some order → MayCome (role_named name) h → header_after h at (element_line (name ∷ [])) ≡ Err (Text at HeadLine)
no_count h order at name known may = line_by h order at name [] (Err (Text at HeadLine)) known may refl

-- a count that isn't digits alone
undigited : (at : ℕ) (role : Role) (word : List ℕ) → unsigned_of word ≡ None → count_of at role word ≡ Err (Text at HeadLine)
unfolding count_of
undigited at role word none = rw none

-- a count of digits, by whether it is held and by its limit
count_by : (at n : ℕ) (role : Role) (word : List ℕ) (held : Bool) → unsigned_of word ≡ Some n → nat_lt n (2 ^ 64) ≡ held → count_of at role word ≡ (only_if held n (Text at Number) >>= limited at role)
unfolding count_of
count_by at n role word held is small = rw (is, small)

-- few enough records
few_counted : (at n : ℕ) (role : Role) → HasFew role n → limited at role n ≡ Ok n
few_counted at n Vertices few = rw (le-leb n MOST_ITEMS few)
few_counted at n Faces few = rw (le-leb n MOST_ITEMS few)
few_counted at n Foreign few = refl

-- the line of an element whose count is wrong
pub no_digits : (h : Header) (order : ByteOrder) (at : ℕ) (name count : List ℕ) (words : List (List ℕ)) → h.order ≡ Some order → MayCome (role_named name) h → unsigned_of count ≡ None → header_after h at (element_line (name ∷ count ∷ words)) ≡ Err (Text at HeadLine)
no_digits h order at name count words known may none =
    line_by h order at name (count ∷ words) (Err (Text at HeadLine)) known may
    (ap (λ c. c >>= λ n. at_line_end at n words) (undigited at (role_named name) count none))

pub too_great : (h : Header) (order : ByteOrder) (at n : ℕ) (name count : List ℕ) (words : List (List ℕ)) → h.order ≡ Some order → MayCome (role_named name) h → unsigned_of count ≡ Some n → 2 ^ 64 ≤ n → header_after h at (element_line (name ∷ count ∷ words)) ≡ Err (Text at Number)
too_great h order at n name count words known may is long =
    line_by h order at name (count ∷ words) (Err (Text at Number)) known may
    (ap (λ c. c >>= λ m. at_line_end at m words) (count_by at n (role_named name) count false is (le-ltb n (2 ^ 64) long)))

-- the line of an element whose count is too great for its role
many_by : (h : Header) (order : ByteOrder) (at n : ℕ) (name count : List ℕ) (words : List (List ℕ)) (fault : MeshFault) → h.order ≡ Some order → MayCome (role_named name) h → unsigned_of count ≡ Some n → n < 2 ^ 64 → limited at (role_named name) n ≡ Err fault →
    header_after h at (element_line (name ∷ count ∷ words)) ≡ Err fault
many_by h order at n name count words fault known may is held many =
    line_by h order at name (count ∷ words) (Err fault) known may
    (ap (λ c. c >>= λ m. at_line_end at m words) (count_by at n (role_named name) count true is (lt-ltb n (2 ^ 64) held) ∙ many))

pub many_vertices : (h : Header) (order : ByteOrder) (at n : ℕ) (count : List ℕ) (words : List (List ℕ)) → h.order ≡ Some order → (HasVertex h → ⊥) → unsigned_of count ≡ Some n → n < 2 ^ 64 → MOST_ITEMS < n → header_after h at (element_line (codes "vertex" ∷ count ∷ words)) ≡ Err (TooMany limits.Vertices n)
unfolding role_named
many_vertices h order at n count words known never is held many =
    many_by h order at n (codes "vertex") count words (TooMany limits.Vertices n) known never is held (rw (lt-leb n MOST_ITEMS many))

pub many_faces : (h : Header) (order : ByteOrder) (at n : ℕ) (count : List ℕ) (words : List (List ℕ)) → h.order ≡ Some order → HasVertex h → (HasFace h → ⊥) → unsigned_of count ≡ Some n → n < 2 ^ 64 → MOST_ITEMS < n → header_after h at (element_line (codes "face" ∷ count ∷ words)) ≡ Err (TooMany limits.Faces n)
unfolding role_named
many_faces h order at n count words known there never is held many =
    many_by h order at n (codes "face") count words (TooMany limits.Faces n) known (there, never) is held (rw (lt-leb n MOST_ITEMS many))

-- a count within its limits, and what stands behind it
count_is : (at n : ℕ) (role : Role) (word : List ℕ) (words : List (List ℕ)) → unsigned_of word ≡ Some n → n < 2 ^ 64 → HasFew role n → last_count_of at role (word ∷ words) ≡ at_line_end at n words
count_is at n role word words is held few =
    ap (λ c. c >>= λ m. at_line_end at m words)
    (count_by at n role word true is (lt-ltb n (2 ^ 64) held) ∙ few_counted at n role few)

pub element_trailing : (h : Header) (order : ByteOrder) (at n : ℕ) (name count word : List ℕ) (words : List (List ℕ)) → h.order ≡ Some order → MayCome (role_named name) h → unsigned_of count ≡ Some n → n < 2 ^ 64 → HasFew (role_named name) n → header_after h at (element_line (name ∷ count ∷ word ∷ words)) ≡ Err (Text at HeadLine)
element_trailing h order at n name count word words known may is held few =
    line_by h order at name (count ∷ word ∷ words) (Err (Text at HeadLine)) known may (count_is at n (role_named name) count (word ∷ words) is held few)

pub whole_element : (h : Header) (order : ByteOrder) (at n : ℕ) (name count : List ℕ) → h.order ≡ Some order → MayCome (role_named name) h → unsigned_of count ≡ Some n → n < 2 ^ 64 → HasFew (role_named name) n → header_after h at (element_line (name ∷ count ∷ [])) ≡ Ok (record (closed h) { last = Some (record { role = role_named name; count = n; properties = [] }) })
whole_element h order at n name count known may is held few =
    line_by h order at name (count ∷ []) (Ok n) known may (count_is at n (role_named name) count [] is held few)
