-- The vertices and faces, one behind another.
use Rattle.std.proofs.Common.{◌≡◌, ℕ, ◌+◌, ◌-◌, ◌<◌, min, List, Option, Some, None, refl, ap, ◌∙◌, add-one, arith}
use Rattle.std.specs.Option.{option_map}
use Rattle.fault_counts.specs.Told.{Told}
use Rattle.mesh_items.specs.declared.items.Item.{Item}
use Rattle.mesh_items.specs.declared.items.Item.TheVariants.{Counts, Vertex, Face}
use Rattle.mesh_items.specs.declared.items.MeshFault.{MeshFault}
use Rattle.mesh_items.specs.declared.items.MeshFault.TheVariants.{Read, Text, TooMany, Memory}
use Rattle.mesh_items.specs.Reading.{Gives, item_then, nothing_more}
use Rattle.oemm_lines.specs.Stream.{left_of}
use Rattle.mesh_items.specs.Progress.{MayFollow, given_by}
use Rattle.ply_header.specs.declared.layout.Layout.{Layout}
use Rattle.ply_reader.specs.Body.{Rest, item_in}
use Rattle.ply_reader.specs.Feed.{Feed, rest_with, rest_left, found, failed, Fails}
use Rattle.ply_reader.specs.Mesh.{items_of, begun_by}
use Rattle.ply_reader.specs.Reader.{counts_of, only, items_left, only_fault, Ends}
use Rattle.ply_reader.proofs.StepLaws.{some_is}

pub items_suc : (l : Layout) (n m done : ℕ) (r : Rest) → n ≡ m + 1 → items_of l n done r ≡ begun_by (item_in l done r) (items_of l m (done + 1))
unfolding items_of
items_suc l n m done r is = ap (λ k. items_of l k done r) (is ∙ add-one m)

pub items_done : (l : Layout) (done : ℕ) (old : Option Rest) → done ≡ l.vertex.count + l.face.count → option_map (items_left l done) old ≡ option_map (only nothing_more) old
unfolding items_of
items_done l done None all = refl
items_done l done (Some r) all = ap (λ k. Some (items_of l k done r)) (let e : l.vertex.count + l.face.count - done ≡ 0 = omega arith in e)

begun : (l : Layout) (done : ℕ) (r : Rest) → done < l.vertex.count + l.face.count → items_left l done r ≡ begun_by (item_in l done r) (items_left l (done + 1))
begun l done r more = items_suc l (l.vertex.count + l.face.count - done) (l.vertex.count + l.face.count - (done + 1)) done r (omega arith)

pub items_next : (l : Layout) (done : ℕ) (i : Item) (old new : Option Rest) → done < l.vertex.count + l.face.count → option_map (item_in l done) old ≡ option_map (found i) new → option_map (items_left l done) old ≡ option_map (item_then i) (option_map (items_left l (done + 1)) new)
items_next l done i None None more finds = refl
items_next l done i None (Some s) more finds = absurd cc
items_next l done i (Some r) None more finds = absurd cc
items_next l done i (Some r) (Some s) more finds =
    ap Some (begun l done r more) ∙ ap (λ o. Some (begun_by o (items_left l (done + 1)))) (some_is finds)

fault_over : (l : Layout) (done at : ℕ) (ahead : List ℕ) (fault : MeshFault) (old : Option Rest) (left : Told) → done < l.vertex.count + l.face.count → option_map (item_in l done) old ≡ option_map (failed fault) (option_map (rest_with at ahead) left) → option_map (items_left l done) old ≡ option_map (only_fault fault) left
fault_over l done at ahead fault None None more fails = refl
fault_over l done at ahead fault None (Some s) more fails = absurd cc
fault_over l done at ahead fault (Some r) None more fails = absurd cc
fault_over l done at ahead fault (Some r) (Some s) more fails =
    ap Some (begun l done r more) ∙ ap (λ o. Some (begun_by o (items_left l (done + 1)))) (some_is fails)

pub items_fail : {S : Type 0} (told : S → Told) (f : Feed S) (l : Layout) (done : ℕ) (fault : MeshFault) (old : Option Rest) → done < l.vertex.count + l.face.count → Fails (item_in l done) old fault (rest_left told f) → Ends (option_map (items_left l done) old) fault (left_of told f.stream)
items_fail told f l done Read old more fails = tt
items_fail told f l done Memory old more fails = tt
items_fail told f l done (Text at why) old more fails = fault_over l done _ _ (Text at why) old (left_of told f.stream) more fails
items_fail told f l done (TooMany what count) old more fails = fault_over l done _ _ (TooMany what count) old (left_of told f.stream) more fails

-- an item that may follow is given
given_item : (v f done : ℕ) (i : Item) → done < v + f → MayFollow v done i → Gives (record { counts = Some (v, f); vertices = min done v; faces = done - v; fault = None }) i (record { counts = Some (v, f); vertices = min (done + 1) v; faces = done + 1 - v; fault = None })
given_item v f done (Counts m n) below may = absurd may
given_item v f done (Vertex p) below may = (v, f, refl, (omega arith, grind arith))
given_item v f done (Face t) below may = (v, f, refl, (omega arith, omega arith, may.1, may.2, grind arith))

pub given_next :
    (l : Layout) (layout : Option Layout) (fault : Option MeshFault) (done : ℕ) (i : Item) → fault ≡ None → layout ≡ Some l → done < l.vertex.count + l.face.count → MayFollow l.vertex.count done i →
    ((given_by (option_map counts_of layout) done fault).fault ≡ None) × Gives (given_by (option_map counts_of layout) done fault) i (given_by (option_map counts_of layout) (done + 1) fault)
given_next l layout fault done i calm is below may = rw (calm, is) (refl, given_item l.vertex.count l.face.count done i below may)
