-- Sheets are read as they are spelled.
use Rattle.std.proofs.Common.{Option, Some, ◌≡◌, ℕ, ◌<◌, ◌≤◌, ◌^◌, Ok, arith, List, [], length, true, refl, sym, ap, ◌∙◌, eqb, subst}
use Rattle.std.proofs.lemmas.Bool.{eqb-true}
use Rattle.std.specs.List.{flat_map}
use Rattle.mesh_data.specs.declared.geometry.Tri.{Tri}
use Rattle.sheet_data.specs.Summed.{SummedVertex}
use Rattle.sheet_data.specs.declared.sheets.LeafSheet.{LeafSheet}
use Rattle.byte_grammar.specs.Reader.{number, unit, many, is_in}
use Rattle.byte_grammar.specs.Numbers.{u32_bytes}
use Rattle.byte_grammar.specs.Keeps.{Keeps, Always}
use Rattle.byte_grammar.proofs.Spells.{Spells, Spells-then, Spells-last, Spells-unit, Spells-many, Keeps-parts, Keeps-both, is_in-low, is_in-high, is_in-from}
use Rattle.byte_grammar.proofs.NumberSpells.{Spells-u16, Spells-u32}
use Rattle.byte_grammar.specs.Codec.{IsCodec}
use Rattle.byte_grammar.proofs.Codecs.{codec_of}
use Rattle.byte_grammar.proofs.Variants.{Makes, Makes-then, Makes-last}
use Rattle.byte_grammar.proofs.Places.{Places, Places-then, Places-unit, Places-number, Places-many, Places-done}
use Rattle.geometry_bytes.specs.Geometry.{face_bytes, FitsTri, face, is_bounded}
use Rattle.leaf_codec.specs.Sheets.{vertex_bytes, sheet_bytes, names_of, vertex_follows, face_follows, leaf_follows, vertex, sheet, FitsVertex, KeepsSheetRules, IsSheetSpelling}
use Rattle.geometry_bytes.proofs.GeometrySpells.{Spells-point, Spells-face, Spells-sums}
use Rattle.leaf_codec.specs.declared.formats.TheConstants.{LEAF_TAG, MOST_UNITS, NEWEST}

pub Spells-vertex : Spells vertex vertex_bytes FitsVertex
unfolding vertex vertex_bytes
Spells-vertex =
    Spells-then Spells-u32 (λ t. t.name) λ name _.
    Spells-then Spells-point (λ t. t.point) λ point _.
    Spells-last (Spells-unit Spells-sums is_bounded) (λ t. t.quad)
    (λ sums. record { name = name; point = point; quad = sums }) (λ sums _. (((tt, refl), refl), refl))
    (λ t e _. rw (← e.0.1, ← e.1) refl)

-- ---- the lists of a sheet

abbrev pub VertexRule : List SummedVertex → SummedVertex → Type 0
VertexRule before v = FitsVertex v × (vertex_follows before v ≡ true)

abbrev pub FaceRule : List ℕ → List Tri → Tri → Type 0
FaceRule names before t = FitsTri t × (face_follows names before t ≡ true)

abbrev pub LeafRule : Option ℕ → List ℕ → ℕ → Type 0
LeafRule out before n = (n < 2 ^ 32) × (leaf_follows out before n ≡ true)

pub Spells-vertices : (n : ℕ)
    → Spells (many (λ before. unit (vertex_follows before) vertex) n []) (flat_map vertex_bytes)
    (λ vs. (length vs ≡ n) × Keeps VertexRule [] vs)
Spells-vertices n = Spells-many (λ before. Spells-unit Spells-vertex (vertex_follows before)) n

pub Spells-faces : (names : List ℕ) (n : ℕ)
    → Spells (many (λ before. unit (face_follows names before) face) n []) (flat_map face_bytes)
    (λ ts. (length ts ≡ n) × Keeps (FaceRule names) [] ts)
Spells-faces names n = Spells-many (λ before. Spells-unit Spells-face (face_follows names before)) n

pub Spells-leaves : (out : Option ℕ) (n : ℕ)
    → Spells (many (λ before. unit (leaf_follows out before) (number 4)) n []) (flat_map u32_bytes)
    (λ ns. (length ns ≡ n) × Keeps (LeafRule out) [] ns)
Spells-leaves out n = Spells-many (λ before. Spells-unit Spells-u32 (leaf_follows out before)) n

pub Places-leaves : (out : Option ℕ) (n : ℕ) → Places (many (λ before. unit (leaf_follows out before) (number 4)) n [])
Places-leaves out n =
    Places-many _ _ _ (λ before. Spells-unit Spells-u32 (leaf_follows out before))
    (λ before. Places-unit Spells-u32 (leaf_follows out before)) n []

-- ---- sheets

-- what is read and written of a format and a sheet, field by field
unfoldable pub SheetRule : ℕ × LeafSheet → Type 0
SheetRule b =
    let s = b.1 in
    Always
    × (((LEAF_TAG < 2 ^ 32) × (eqb LEAF_TAG LEAF_TAG ≡ true)) ×
    (((b.0 < 2 ^ 16) × (is_in 1 NEWEST b.0 ≡ true)) × ((s.leaf < 2 ^ 32)
    × (((length s.vertices < 2 ^ 32) × (is_in 0 MOST_UNITS (length s.vertices) ≡ true)) ×
    (((length s.faces < 2 ^ 32) × (is_in 0 MOST_UNITS (length s.faces) ≡ true)) ×
    (((length s.near < 2 ^ 32) × (is_in 0 MOST_UNITS (length s.near) ≡ true))
    × (((length s.vertices ≡ length s.vertices) × Keeps VertexRule [] s.vertices)
    × (((length s.faces ≡ length s.faces) × Keeps (FaceRule (names_of s.vertices)) [] s.faces)
    × ((length s.near ≡ length s.near) × Keeps (LeafRule (Some s.leaf)) [] s.near)))))))))

pub Makes-sheet : Makes (λ (b : ℕ × LeafSheet). b.1) sheet (λ b. sheet_bytes b.0 b.1) SheetRule
unfolding sheet sheet_bytes SheetRule
Makes-sheet =
    Makes-then (Spells-unit Spells-u32 (λ n. eqb n LEAF_TAG)) (λ b. LEAF_TAG) λ tag is_tag.
    Makes-then (Spells-unit Spells-u16 (is_in 1 NEWEST)) (λ b. b.0) λ format _.
    Makes-then Spells-u32 (λ b. b.1.leaf) λ leaf _.
    Makes-then (Spells-unit Spells-u32 (is_in 0 MOST_UNITS)) (λ b. length b.1.vertices) λ nv _.
    Makes-then (Spells-unit Spells-u32 (is_in 0 MOST_UNITS)) (λ b. length b.1.faces) λ nf _.
    Makes-then (Spells-unit Spells-u32 (is_in 0 MOST_UNITS)) (λ b. length b.1.near) λ nn _.
    Makes-then (Spells-vertices nv) (λ b. b.1.vertices) λ vertices are_vertices.
    Makes-then (Spells-faces (names_of vertices) nf) (λ b. b.1.faces) λ faces are_faces.
    Makes-last (Spells-leaves (Some leaf) nn) (λ b. b.1.near)
    (λ near. (format, record { leaf = leaf; vertices = vertices; faces = faces; near = near }))
    (λ near are_near. (
      (
        (((((((tt, sym (eqb-true _ _ is_tag.1)), refl), refl), are_vertices.0), are_faces.0), are_near.0), refl),
        refl,
      ),
      refl,
    ))
    (λ b e _. rw (← e.0.0.0.0.0.0.1, ← e.0.0.0.0.0.1, ← e.0.1, ← e.1) refl)

from_rule : (b : ℕ × LeafSheet) → SheetRule b → IsSheetSpelling b.0 (sheet_bytes b.0 b.1) b.1
unfolding SheetRule
from_rule b h =
    let s = b.1 in
    let vs = Keeps-parts FitsVertex (λ before v. vertex_follows before v ≡ true) s.vertices [] h.1.1.1.1.1.1.1.0.1 in
    let fs = Keeps-parts FitsTri
    (λ before t. face_follows (names_of s.vertices) before t ≡ true) s.faces [] h.1.1.1.1.1.1.1.1.0.1 in
    let ns = Keeps-parts (λ n. n < 2 ^ 32)
    (λ before n. leaf_follows (Some s.leaf) before n ≡ true) s.near [] h.1.1.1.1.1.1.1.1.1.1 in
    record {
      from_first = is_in-low _ _ _ h.1.1.0.1;
      to_newest = is_in-high _ _ _ h.1.1.0.1;
      fits = record { leaf = h.1.1.1.0; vertices = vs.0; faces = fs.0; near = ns.0 };
      rules = record {
        vertex_count = is_in-high _ _ _ h.1.1.1.1.0.1;
        face_count = is_in-high _ _ _ h.1.1.1.1.1.0.1;
        near_count = is_in-high _ _ _ h.1.1.1.1.1.1.0.1;
        vertices = vs.1;
        faces = fs.1;
        near = ns.1;
      };
      spelled = refl;
    }

to_rule : (format : ℕ) (bytes : List ℕ) (s : LeafSheet) → IsSheetSpelling format bytes s
    → (bytes ≡ sheet_bytes format s) × SheetRule (format, s)
unfolding SheetRule
to_rule format bytes s h =
    let form : (format < 2 ^ 16) × (is_in 1 NEWEST format ≡ true) =
    (let le = h.to_newest in omega arith, is_in-from _ _ _ h.from_first h.to_newest) in
    let count : (n : ℕ) → n ≤ MOST_UNITS → (n < 2 ^ 32) × (is_in 0 MOST_UNITS n ≡ true) =
    λ n le. (omega arith, is_in-from _ _ _ (omega arith) le) in
    let vs = Keeps-both FitsVertex
    (λ before v. vertex_follows before v ≡ true) s.vertices [] h.fits.vertices h.rules.vertices in
    let fs = Keeps-both FitsTri
    (λ before t. face_follows (names_of s.vertices) before t ≡ true) s.faces [] h.fits.faces h.rules.faces in
    let ns = Keeps-both (λ n. n < 2 ^ 32)
    (λ before n. leaf_follows (Some s.leaf) before n ≡ true) s.near [] h.fits.near h.rules.near in (
      h.spelled,
      (
        tt,
        (
          (omega arith, refl),
          (
            form,
            (
              h.fits.leaf,
              (
                count _ h.rules.vertex_count,
                (count _ h.rules.face_count, (count _ h.rules.near_count, ((refl, vs), ((refl, fs), (refl, ns))))),
              ),
            ),
          ),
        ),
      ),
    )

-- where a sheet's bytes are wrong
pub Places-sheet : Places sheet
unfolding sheet
Places-sheet =
    let count = Places-unit Spells-u32 (is_in 0 MOST_UNITS) in
    Places-then (Spells-unit Spells-u32 (λ n. eqb n LEAF_TAG)) (Places-unit Spells-u32 (λ n. eqb n LEAF_TAG)) λ tag _.
    Places-then (Spells-unit Spells-u16 (is_in 1 NEWEST)) (Places-unit Spells-u16 (is_in 1 NEWEST)) λ format _.
    Places-then Spells-u32 (Places-number 4) λ leaf _.
    Places-then (Spells-unit Spells-u32 (is_in 0 MOST_UNITS)) count λ nv _.
    Places-then (Spells-unit Spells-u32 (is_in 0 MOST_UNITS)) count λ nf _.
    Places-then (Spells-unit Spells-u32 (is_in 0 MOST_UNITS)) count λ nn _.
    Places-then (Spells-vertices nv)
    (Places-many _ _ _ (λ before. Spells-unit Spells-vertex (vertex_follows before))
    (λ before. Places-unit Spells-vertex (vertex_follows before)) nv []) λ vertices _.
    Places-then (Spells-faces (names_of vertices) nf)
    (Places-many _ _ _ (λ before. Spells-unit Spells-face (face_follows (names_of vertices) before))
    (λ before. Places-unit Spells-face (face_follows (names_of vertices) before)) nf []) λ faces _.
    Places-then (Spells-leaves (Some leaf) nn) (Places-leaves (Some leaf) nn) λ near _.
    Places-done (record { leaf = leaf; vertices = vertices; faces = faces; near = near })

pub sheet_codec : IsCodec sheet KeepsSheetRules IsSheetSpelling
sheet_codec = codec_of Makes-sheet Places-sheet from_rule to_rule (λ format bytes s h. h.rules)
