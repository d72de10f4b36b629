-- The parts of a mesh that a file can hold, and what a whole reading leads to.
use Rattle.std.proofs.Common.{◌≡◌, ℕ, List, [], ◌∷◌, ◌++◌, length, map, Ok, refl, ap}
use Rattle.std.specs.List.{AllByRecursion}
use Rattle.std.proofs.lemmas.List.Elements.{recursion_from_All}
use Rattle.oemm_octree.specs.declared.points.Point.{Point}
use Rattle.mesh_data.specs.declared.geometry.Tri.{Tri}
use Rattle.mesh_items.specs.declared.items.Item.{Item}
use Rattle.mesh_items.specs.declared.items.Item.TheVariants.{Vertex, Face}
use Rattle.mesh_data.specs.declared.geometry.Soup.{Soup}
use Rattle.mesh_items.specs.Reading.{Reading, with_item, soup, soup_of_items}
use Rattle.mesh_data.specs.Triangles.{IsProper, IsBelow}
use Rattle.mesh_round_trip.specs.Whole.{IsWritable}
use Rattle.mesh_items.specs.Progress.{reading_of}

-- a face of a mesh with so many vertices
abbrev pub IsFace : ℕ → Tri → Type 0
IsFace vertices t = IsProper t × IsBelow vertices t

both_held : (vertices : ℕ) (faces : List Tri) → AllByRecursion IsProper faces → AllByRecursion (IsBelow vertices) faces → AllByRecursion (IsFace vertices) faces
both_held vertices [] proper below = tt
both_held vertices (t ∷ ts) proper below = ((proper.0, below.0), both_held vertices ts proper.1 below.1)

pub faces_held : (points : List Point) (faces : List Tri) → IsWritable points faces → AllByRecursion (IsFace (length points)) faces
faces_held points faces writable =
    both_held (length points) faces (recursion_from_All IsProper faces writable.faces_proper)
    (recursion_from_All (IsBelow (length points)) faces writable.faces_below)

-- the reading behind these items
abbrev pub led_by : List Item → Reading → Reading
led_by items r = record { items = items ++ r.items; fault = r.fault }

soup_of_faces : (faces : List Tri) → soup_of_items (map Face faces) ≡ record { points = []; faces = faces }
soup_of_faces [] = refl
soup_of_faces (t ∷ ts) = ap (with_item (Face t)) (soup_of_faces ts)

soup_of_both : (points : List Point) (faces : List Tri) → soup_of_items (map Vertex points ++ map Face faces) ≡ record { points = points; faces = faces }
soup_of_both [] faces = soup_of_faces faces
soup_of_both (p ∷ ps) faces = ap (with_item (Vertex p)) (soup_of_both ps faces)

-- the points and faces of a whole reading
pub soup_of_whole : (points : List Point) (faces : List Tri) → soup (reading_of points faces) ≡ Ok (record { points = points; faces = faces })
soup_of_whole points faces = ap (λ (s : Soup). Ok s) (soup_of_both points faces)
