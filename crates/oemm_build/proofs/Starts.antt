-- The start mesh of points and faces, and the plan by its audit.
use Rattle.std.proofs.Common.{◌≡◌, ◌≢◌, ℕ, ℤ, ◌≤◌, List, length, map, refl, sym, ap, ◌∙◌, subst, arith}
use Rattle.std.proofs.lemmas.Bool.Decides.{nat_tests}
use Rattle.std.proofs.lemmas.List.Elements.{All-map}
use Rattle.std.proofs.lemmas.List.Sorted.{All-permutation, IsPermutation-refl}
use Rattle.std.specs.List.{All}
use Rattle.oemm_limits.specs.declared.TheConstants.{MOST_CAP, MOST_CORE, MOST_ITEMS}
use Rattle.mesh_data.specs.declared.geometry.Soup.{Soup}
use Rattle.mesh_data.specs.declared.geometry.Tri.{Tri}
use Rattle.mesh_data.specs.declared.shapes.Audit.{Audit}
use Rattle.mesh_data.specs.declared.shapes.Audit.TheVariants.{Good}
use Rattle.mesh_data.specs.Manifold.{Audits, IsTriangleOf}
use Rattle.mesh_data.specs.Mesh.{planes_at, start, start_tris}
use Rattle.mesh_data.specs.Triangles.{IsProper, IsBelow, turned, tri_cmp}
use Rattle.edit_steps.proofs.Vertices.{contains-vertices_from}
use Rattle.triangle_lists.proofs.Sorting.{IsPermutation-in_order}
use Rattle.mesh_cutting.proofs.Started.{each_started}
use Rattle.face_audit.specs.Audit.{AuditsFaces}
use Rattle.face_audit.proofs.SameAudit.{audit_of_mesh}
use Rattle.mesh_soup.specs.Soup.{IsSoup}
use Rattle.stored_mesh.specs.Stored.{Base}
use Rattle.store_spelling.proofs.IndexRules.{first_keeps, index_keeps, vertices_started}
use Rattle.oemm_octree.specs.declared.cells.Cell.{Cell}
use Rattle.oemm_octree.specs.declared.points.Point.{Point}
use Rattle.oemm_octree.specs.Leaves.{AreTiles, leaves}
use Rattle.oemm_octree.specs.Octree.{IsOnGrid}
use Rattle.oemm_octree.proofs.Tilings.{leaves_tile}
use Rattle.leaf_codec.specs.Sheets.{KeepsSheetRules}
use Rattle.mesh_cutting.specs.Cuts.{Cut, mesh_in}
use Rattle.mesh_sheets.specs.Sheets.{sheet}
use Rattle.oemm_build.specs.declared.planning.Plan.{Plan}
use Rattle.oemm_build.specs.Items.{IsFit, IsPlanOf}

-- ---- triangles

turned_twice : (t : Tri) → IsProper t → turned (turned t) ≡ turned t
turned_twice t proper =
    let ab : t.a ≢ t.b = proper.0 in
    let bc : t.b ≢ t.c = proper.1 in
    let ca : t.c ≢ t.a = proper.2 in
    grind (arith, nat_tests)

module _ (s : Soup) (fits : IsSoup MOST_ITEMS s) where
  pub proper_started : All IsProper (start_tris s)
  proper_started = each_started IsProper (λ t h. (h.1, h.2, h.0)) s.faces fits.proper

  below_started : All (IsBelow (length s.points)) (start_tris s)
  below_started = each_started (IsBelow (length s.points)) (λ t h. (h.1, h.2, h.0)) s.faces fits.below

  pub few_started : All (IsBelow MOST_ITEMS) (start_tris s)
  few_started k d lt =
      let is = below_started k d lt in
      (omega (arith, is.0, fits.points), omega (arith, is.1, fits.points), omega (arith, is.2, fits.points))

  turned_started : All (λ t. turned t ≡ t) (start_tris s)
  turned_started =
      All-permutation (λ t. turned t ≡ t) (map turned s.faces) (start_tris s) (IsPermutation-in_order tri_cmp (map turned s.faces))
      (All-map (λ t. turned t ≡ t) turned s.faces (λ k d lt. turned_twice _ (fits.proper k d lt)))

  triangles_started : All (IsTriangleOf (start s).vertices) (start_tris s)
  triangles_started k d lt =
      let planes = planes_at s.points (start_tris s) in
      let is = below_started k d lt in
      record {
        proper = proper_started k d lt;
        is_turned = turned_started k d lt;
        a = contains-vertices_from planes s.points _ is.0;
        b = contains-vertices_from planes s.points _ is.1;
        c = contains-vertices_from planes s.points _ is.2;
      }

  -- the audit of the faces is that of the start mesh
  pub audit_started : (a : Audit) → AuditsFaces (length s.points) (start_tris s) a → Audits (start s) a
  audit_started a is =
      (audit_of_mesh (start s) (start_tris s) a triangles_started (IsPermutation-refl (start_tris s))).0
      (subst (λ n. AuditsFaces n (start_tris s) a) (sym (vertices_started s)) is)

  -- the audit of the triangles of the mesh that is cut
  pub audit_cut : (cells : List Cell) (c : Cut) (points : List Point) (n : ℕ) (tris : List Tri) (a : Audit)
      → c ≡ record { cells = cells; points = s.points; tris = start_tris s } → points ≡ c.points → n ≡ length points
      → tris ≡ c.tris → AuditsFaces n tris a → Audits (start s) a
  audit_cut cells c points n tris a is of_cut many of_tris audits =
      let same_points : points ≡ s.points = of_cut ∙ ap (λ (x : Cut). x.points) is in
      let same_tris : tris ≡ start_tris s = of_tris ∙ ap (λ (x : Cut). x.tris) is in
      let count : n ≡ length s.points = many ∙ ap (λ (ps : List Point). length ps) same_points in
      audit_started a (subst (λ (k : ℕ). AuditsFaces k (start_tris s) a) count (subst (λ (ts : List Tri). AuditsFaces n ts a) same_tris audits))

  abbrev the_cut : List Cell → Cut
  the_cut cells = record { cells = cells; points = s.points; tris = start_tris s }

  -- the plan by a good audit
  pub planned : (cap core : ℕ) (points : List Point) (cells copied : List Cell) (c : Cut) (v f : ℕ) (e euler : ℤ) (border : ℕ)
      → 1 ≤ cap → cap ≤ MOST_CAP → 1 ≤ core → core ≤ MOST_CORE → points ≡ s.points → All IsOnGrid points
      → cells ≡ leaves points cap → copied ≡ cells → c ≡ record { cells = copied; points = s.points; tris = start_tris s }
      → euler ≡ e → Audits (start s) (Good v f e border)
      → IsPlanOf cap core s (record {
        index = record {
          cap = cap;
          core = core;
          vertices = v;
          faces = f;
          euler = euler;
          border = border;
          cells = cells;
        };
        cut = c;
      })
  planned cap core points cells copied c v f e euler border least_cap most_cap least_core most_core same grid leaves_are copy is
      same_euler good = record {
        base = record {
          least_cap = least_cap;
          most_cap = most_cap;
          least_core = least_core;
          most_core = most_core;
          grid = subst (λ (ps : List Point). All IsOnGrid ps) same grid;
          few_points = fits.points;
          few_faces = fits.faces;
          cells = leaves_are ∙ ap (λ (ps : List Point). leaves ps cap) same;
          good = subst (λ (z : ℤ). Audits (start s) (Good v f z border)) (sym same_euler) good;
        };
        asked_cap = refl;
        asked_core = refl;
        cut = is ∙ ap (λ (cs : List Cell). the_cut cs) copy;
      }

-- ---- plans

-- what is planned can be put
pub plan_fits : (cap core : ℕ) (s : Soup) (p : Plan) → IsPlanOf cap core s p → IsFit p
plan_fits cap core s p plan =
    let b : Base = record { index = p.index; soup = s } in
    record {
      tiles = subst AreTiles (sym plan.base.cells) (leaves_tile s.points p.index.cap);
      rules = index_keeps b plan.base;
      same = ap (λ (c : Cut). c.cells) plan.cut;
      sheets = λ leaf lt. subst (λ (c : Cut). KeepsSheetRules (sheet p.index.cells (mesh_in c) leaf)) (sym plan.cut)
          (first_keeps b leaf plan.base lt);
    }
