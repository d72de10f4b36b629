-- Readings that are taken item by item.
use Rattle.std.proofs.Common.{◌≡◌, ℕ, ◌≤◌, ◌<◌, IfSome, cond, List, [], ◌∷◌, ◌++◌, map, Option, Some, None, Result, Ok, Err, refl, sym, ap, ◌∙◌, subst, append_assoc}
use Rattle.std.proofs.lemmas.Bool.{le-ltb, lt-ltb}
use Rattle.std.proofs.lemmas.List.{map-append}
use Rattle.std.specs.Bool.{⊤}
use Rattle.std.specs.Option.{option_map}
use Rattle.oemm_octree.specs.declared.points.Point.{Point}
use Rattle.mesh_data.specs.declared.geometry.Tri.{Tri}
use Rattle.mesh_items.specs.declared.items.Item.{Item}
use Rattle.mesh_items.specs.declared.items.Item.TheVariants.{Counts, Vertex, Face}
use Rattle.mesh_items.specs.declared.items.MeshFault.{MeshFault}
use Rattle.mesh_items.specs.declared.items.MeshFault.TheVariants.{Read, Text, TooMany, Memory}
use Rattle.oemm_limits.specs.declared.what.What.TheVariants.{Vertices}
use Rattle.mesh_data.specs.declared.geometry.Soup.{Soup}
use Rattle.mesh_items.specs.Reading.{Reading, item_then, Reads, ReadsFault, fault_alone, nothing_more, soup, soup_of_items, soup_or, with_item}
use Rattle.mesh_soup.specs.declared.soup.SoupFault.{SoupFault}
use Rattle.mesh_soup.specs.declared.soup.SoupFault.TheVariants as faults
use Rattle.mesh_soup.specs.Soup.{items_then, StandsBehind, StopsAt, limited, GivesMeshFault, GivesSoupFault}

-- nothing was taken
pub all_none : (a : Option Reading) → a ≡ option_map (items_then []) a
all_none None = refl
all_none (Some r) = refl

-- one item more was taken
pub all_more : (a b c : Option Reading) (front : List Item) (item : Item) → a ≡ option_map (items_then front) b → b ≡ option_map (item_then item) c → a ≡ option_map (items_then (front ++ item ∷ [])) c
all_more a b None front item p q = p ∙ ap (option_map (items_then front)) q
all_more a b (Some r) front item p q =
    p ∙ ap (option_map (items_then front)) q ∙ ap (λ items. Some (record { items = items; fault = r.fault })) (sym (append_assoc front (item ∷ []) r.items))

-- what stands behind a reading stands behind it from its beginning on
all_stand : (a b : Option Reading) (front : List Item) (fault : MeshFault) → a ≡ option_map (items_then front) b
    → StandsBehind b fault → StandsBehind a fault
all_stand a b front Read p s = tt
all_stand a b front Memory p s = tt
all_stand a None front (Text at why) p s = subst (λ o. StandsBehind o (Text at why)) (sym p) tt
all_stand a (Some r) front (Text at why) p s = subst (λ o. StandsBehind o (Text at why)) (sym p) s
all_stand a None front (TooMany what count) p s = subst (λ o. StandsBehind o (TooMany what count)) (sym p) tt
all_stand a (Some r) front (TooMany what count) p s = subst (λ o. StandsBehind o (TooMany what count)) (sym p) s

pub all_stop : (a b : Option Reading) (front : List Item) (fault : SoupFault) → a ≡ option_map (items_then front) b
    → StopsAt b fault → StopsAt a fault
all_stop a b front (faults.Mesh fault) p s = all_stand a b front fault p s
all_stop a b front faults.Memory p s = tt

-- a fault that a call answers stands behind what was left
pub stands_now : (a b : Option Reading) (fault : MeshFault) → ReadsFault a fault b → StandsBehind a fault
stands_now a b Read h = tt
stands_now a b Memory h = tt
stands_now None b (Text at why) h = tt
stands_now (Some r) b (Text at why) h = ap (λ x. x.fault) h.0
stands_now None b (TooMany what count) h = tt
stands_now (Some r) b (TooMany what count) h = ap (λ x. x.fault) h.0

pub stops_now : (a b : Option Reading) (fault : MeshFault) → ReadsFault a fault b → StopsAt a (faults.Mesh fault)
stops_now a b fault h = stands_now a b fault h

-- the same after some items were taken
pub stops_before : (a b c : Option Reading) (front : List Item) (fault : MeshFault) → a ≡ option_map (items_then front) b
    → ReadsFault b fault c → StopsAt a (faults.Mesh fault)
stops_before a b c front fault p h = all_stand a b front fault p (stands_now b c fault h)

-- one point more
pub points_more : (a b c : Option Reading) (ps : List Point) (p : Point) → a ≡ option_map (items_then (map Vertex ps)) b → b ≡ option_map (item_then (Vertex p)) c → a ≡ option_map (items_then (map Vertex (ps ++ p ∷ []))) c
points_more a b c ps p h i = subst (λ front. a ≡ option_map (items_then front) c) (sym (map-append Vertex ps (p ∷ []))) (all_more a b c (map Vertex ps) (Vertex p) h i)

-- one face more
pub faces_more : (a b c : Option Reading) (ts : List Tri) (t : Tri) → a ≡ option_map (items_then (map Face ts)) b → b ≡ option_map (item_then (Face t)) c → a ≡ option_map (items_then (map Face (ts ++ t ∷ []))) c
faces_more a b c ts t h i = subst (λ front. a ≡ option_map (items_then front) c) (sym (map-append Face ts (t ∷ []))) (all_more a b c (map Face ts) (Face t) h i)

-- the same where the item and what was pushed are known by equations
pub points_next : (a b c : Option Reading) (ps all : List Point) (next : Option Item) (item : Item) (p : Point) → next ≡ Some item → item ≡ Vertex p → a ≡ option_map (items_then (map Vertex ps)) b → Reads b (Ok next) c → all ≡ ps ++ p ∷ [] → a ≡ option_map (items_then (map Vertex all)) c
points_next a b c ps all next item p some is h i pushed =
    let given : Reads b (Ok (Some (Vertex p))) c = subst (λ (x : Item). Reads b (Ok (Some x)) c) is (subst (λ (o : Option Item). Reads b (Ok o) c) some i) in
    subst (λ (xs : List Point). a ≡ option_map (items_then (map Vertex xs)) c) (sym pushed) (points_more a b c ps p h given)

pub faces_next : (a b c : Option Reading) (ts all : List Tri) (next : Option Item) (item : Item) (t : Tri) → next ≡ Some item → item ≡ Face t → a ≡ option_map (items_then (map Face ts)) b → Reads b (Ok next) c → all ≡ ts ++ t ∷ [] → a ≡ option_map (items_then (map Face all)) c
faces_next a b c ts all next item t some is h i pushed =
    let given : Reads b (Ok (Some (Face t))) c = subst (λ (x : Item). Reads b (Ok (Some x)) c) is (subst (λ (o : Option Item). Reads b (Ok o) c) some i) in
    subst (λ (xs : List Tri). a ≡ option_map (items_then (map Face xs)) c) (sym pushed) (faces_more a b c ts t h given)

-- faces behind one another are their soup
soup_faces : (ts : List Tri) → soup_of_items (map Face ts ++ []) ≡ record { points = []; faces = ts }
soup_faces [] = refl
soup_faces (t ∷ ts) = ap (with_item (Face t)) (soup_faces ts)

-- points and then faces are their soup
soup_points : (ps : List Point) (ts : List Tri) → soup_of_items (map Vertex ps ++ (map Face ts ++ [])) ≡ record { points = ps; faces = ts }
soup_points [] ts = soup_faces ts
soup_points (p ∷ ps) ts = ap (with_item (Vertex p)) (soup_points ps ts)

-- what the reading leads to, where it is told
abbrev LeadsTo : ℕ → Result Soup MeshFault → Option Reading → Type 0
LeadsTo most result told = IfSome told (λ r. soup (limited most r) ≡ result)

-- a count within the limit stops nothing
limited_few : (most : ℕ) (r : Reading) (v f : ℕ) → v ≤ most
    → limited most (item_then (Counts v f) r) ≡ item_then (Counts v f) r
limited_few most r v f few =
    ap (λ test. cond test (fault_alone (TooMany Vertices v)) (item_then (Counts v f) r)) (le-ltb most v few)

-- all was read
pub soup_done : (most : ℕ) (a b c d : Option Reading) (v f : ℕ) (ps : List Point) (ts : List Tri) → v ≤ most
    → a ≡ option_map (item_then (Counts v f)) b → b ≡ option_map (items_then (map Vertex ps)) c
    → c ≡ option_map (items_then (map Face ts)) d → IfSome d (λ r. r ≡ nothing_more)
    → IfSome a (λ r. soup (limited most r) ≡ Ok (record { points = ps; faces = ts }))
soup_done most a b c None v f ps ts few p q s e =
    subst (LeadsTo most (Ok (record { points = ps; faces = ts })))
    (sym (p ∙ ap (option_map (item_then (Counts v f))) (q ∙ ap (option_map (items_then (map Vertex ps))) s))) tt
soup_done most a b c (Some r) v f ps ts few p q s e =
    let rest = items_then (map Vertex ps) (items_then (map Face ts) nothing_more) in
    let faces : c ≡ Some (items_then (map Face ts) nothing_more) =
    s ∙ ap (λ x. Some (items_then (map Face ts) x)) e in
    let points : b ≡ Some rest = q ∙ ap (option_map (items_then (map Vertex ps))) faces in
    let all : a ≡ Some (item_then (Counts v f) rest) = p ∙ ap (option_map (item_then (Counts v f))) points in
    subst (LeadsTo most (Ok (record { points = ps; faces = ts }))) (sym all)
    (ap soup (limited_few most rest v f few) ∙ ap Ok (soup_points ps ts))

-- the count of vertices is above the limit
pub soup_many : (most : ℕ) (a b : Option Reading) (v f : ℕ) → most < v → a ≡ option_map (item_then (Counts v f)) b
    → IfSome a (λ r. soup (limited most r) ≡ Err (TooMany Vertices v))
soup_many most a None v f many p = subst (LeadsTo most (Err (TooMany Vertices v))) (sym p) tt
soup_many most a (Some r) v f many p =
    subst (LeadsTo most (Err (TooMany Vertices v))) (sym p)
    (ap (λ test. soup (cond test (fault_alone (TooMany Vertices v)) (item_then (Counts v f) r))) (lt-ltb most v many))

-- a fault stands in the place of the counts
pub soup_first : (most : ℕ) (a b : Option Reading) (fault : MeshFault) → ReadsFault a fault b
    → IfSome a (λ r. GivesMeshFault fault (soup (limited most r)))
soup_first most None b fault h = tt
soup_first most (Some r) b Read h = tt
soup_first most (Some r) b Memory h = tt
soup_first most (Some r) b (Text at why) h = ap (λ x. soup (limited most x)) h.0
soup_first most (Some r) b (TooMany what count) h = ap (λ x. soup (limited most x)) h.0

-- a reading behind counts within the limit leads to the fault that stands in it
stopped : (most : ℕ) (r : Reading) (v f : ℕ) (fault : MeshFault) → v ≤ most → r.fault ≡ Some fault
    → soup (limited most (item_then (Counts v f) r)) ≡ Err fault
stopped most r v f fault few s =
    ap soup (limited_few most r v f few) ∙ ap (soup_or (soup_of_items r.items)) s

-- a fault stands behind the counts
later : (most : ℕ) (a b : Option Reading) (v f : ℕ) (fault : MeshFault) → v ≤ most
    → a ≡ option_map (item_then (Counts v f)) b → StandsBehind b fault
    → IfSome a (λ r. GivesMeshFault fault (soup (limited most r)))
later most a None v f fault few p s =
    subst (λ o. IfSome o (λ r. GivesMeshFault fault (soup (limited most r)))) (sym p) tt
later most a (Some r) v f Read few p s = subst (λ o. IfSome o (λ r. ⊤)) (sym p) tt
later most a (Some r) v f Memory few p s = subst (λ o. IfSome o (λ r. ⊤)) (sym p) tt
later most a (Some r) v f (Text at why) few p s =
    subst (LeadsTo most (Err (Text at why))) (sym p) (stopped most r v f (Text at why) few s)
later most a (Some r) v f (TooMany what count) few p s =
    subst (LeadsTo most (Err (TooMany what count))) (sym p) (stopped most r v f (TooMany what count) few s)

pub soup_later : (most : ℕ) (a b : Option Reading) (v f : ℕ) (fault : SoupFault) → v ≤ most
    → a ≡ option_map (item_then (Counts v f)) b → StopsAt b fault
    → IfSome a (λ r. GivesSoupFault fault (soup (limited most r)))
soup_later most a b v f (faults.Mesh fault) few p s = later most a b v f fault few p s
soup_later most None b v f faults.Memory few p s = tt
soup_later most (Some r) b v f faults.Memory few p s = tt
