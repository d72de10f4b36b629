use Rattle.std.proofs.Common.{◌≡◌, ◌+◌, ◌<◌, ℤ, ◌∷◌, sym, subst, true, to_z, of_z, rules}
use Rattle.std.proofs.lemmas.Int.{to_z-of_z}
use Rattle.std.specs.FinMap as finite
use Rattle.std.specs.Int.{w128}
use Rattle.std.specs.List.Sorted.{IsStrictlyIncreasing}
use Rattle.oemm_lists.specs.Numbers.{among}
use Rattle.mesh_data.specs.declared.edits.Reply.TheVariants.{DoneAt}
use Rattle.mesh_data.specs.Edits.{is_held}
use Rattle.collapse_queue.specs.Candidates.{stamp_in}
use Rattle.collapse_queue.specs.Queues.{Queued, restamped}
use Rattle.queued_simplify.specs.Errors.{collapse_reply, contracted}
use Rattle.queued_simplify.specs.Filled.{AreStamped, IsFilled, all_of}
use Rattle.queued_simplify.specs.Rooms.{IsRoomy}
use Rattle.queued_simplify.specs.Turns.{IsAround, IsCleared, IsFit, IsReady, IsReadyBut, IsRestamped}
use Rattle.queued_simplify.proofs.Fits.{are_stamped, at_made, enough_of, fit_then, keys_then, later_then, held_before, ready_then, restamped_first, ring_held, roomy_then, to_made}
use Rattle.queued_simplify.proofs.Prices.{can_collapse, pair_of_done}
use Rattle.queued_simplify.proofs.turn.turn.Goals as goal

pub held_around-requires : goal.held_around-requires
held_around-requires g c =
    let I = g.M.Simplifiable.inside c.args.mesh.now in
    let w = g.M.Simplifiable.seen c.args.mesh.now in
    let top = to_z w128 (of_z w128 c.args.max) in
    let same : top ≡ c.args.max = to_z-of_z w128 c.args.max (search rules) in
    let u = c.args.step.now.u in
    let v = c.args.step.now.v in
    let k = c.args.step.now.cost in
    let done : collapse_reply I w u v top ≡ DoneAt k =
    subst (λ (z : ℤ). collapse_reply I w u v z ≡ DoneAt k) (sym same) c.requires.done in
    (pair_of_done I w u v top k done).held

pub collapse-requires : goal.collapse-requires
collapse-requires g c =
    let I = g.M.Simplifiable.inside c.args.mesh.now in
    let w = g.M.Simplifiable.seen c.args.mesh.now in
    let top = to_z w128 (of_z w128 c.args.max) in
    let same : top ≡ c.args.max = to_z-of_z w128 c.args.max (search rules) in
    let u = c.args.step.now.u in
    let v = c.args.step.now.v in
    let k = c.args.step.now.cost in
    let done : collapse_reply I w u v top ≡ DoneAt k =
    subst (λ (z : ℤ). collapse_reply I w u v z ≡ DoneAt k) (sym same) c.requires.done in
    can_collapse I w u v top k done

pub names_around-requires : goal.names_around-requires
names_around-requires g c =
    let I = g.M.Simplifiable.inside c.args.mesh.now in
    let w = g.M.Simplifiable.seen c.args.mesh.now in
    let u = c.args.step.now.u in
    let v = c.args.step.now.v in
    let J = g.M.Simplifiable.inside c.collapse.new.self in
    let n = g.M.Simplifiable.seen c.collapse.new.self in
    let N = contracted w u v in
    let area : J ≡ I = c.in_ok-collapse.ensures.area in
    let is : n ≡ N = c.in_ok-collapse.ensures.mesh in
    let ring = c.held_around.new.names.items in
    let around = c.in_ok-held_around.ensures.around in
    λ y on. to_made I J N n area is (λ K m. is_held K m.mesh y ≡ true)
    (ring_held I w u v ring around y (subst (λ ns. among y ns ≡ true) c.deref.ensures.value on))

pub restamp-requires-clause-named : goal.restamp-requires-clause-named
restamp-requires-clause-named g c =
    let I = g.M.Simplifiable.inside c.args.mesh.now in
    let w = g.M.Simplifiable.seen c.args.mesh.now in
    let top = to_z w128 (of_z w128 c.args.max) in
    let same : top ≡ c.args.max = to_z-of_z w128 c.args.max (search rules) in
    let u = c.args.step.now.u in
    let v = c.args.step.now.v in
    let k = c.args.step.now.cost in
    let done : collapse_reply I w u v top ≡ DoneAt k =
    subst (λ (z : ℤ). collapse_reply I w u v z ≡ DoneAt k) (sym same) c.requires.done in
    c.requires.fit.keys u (pair_of_done I w u v top k done).held

pub restamp-requires-clause-later : goal.restamp-requires-clause-later
restamp-requires-clause-later g c =
    let u = c.args.step.now.u in
    c.requires.fit.stamps u

pub restamp_all-requires-clause-once : goal.restamp_all-requires-clause-once
restamp_all-requires-clause-once g c =
    let names = c.names_around.new.names.items in
    let slice = c.deref-2.result.now in
    let listed : slice ≡ names = c.deref-2.ensures.value in
    subst IsStrictlyIncreasing (sym listed) c.in_ok-names_around.ensures.once

pub restamp_all-requires-clause-keys : goal.restamp_all-requires-clause-keys
restamp_all-requires-clause-keys g c =
    let I = g.M.Simplifiable.inside c.args.mesh.now in
    let w = g.M.Simplifiable.seen c.args.mesh.now in
    let u = c.args.step.now.u in
    let v = c.args.step.now.v in
    let s = c.args.stamp in
    let q = c.args.queue.now in
    let old = c.args.refused.now in
    let J = g.M.Simplifiable.inside c.collapse.new.self in
    let n = g.M.Simplifiable.seen c.collapse.new.self in
    let N = contracted w u v in
    let area : J ≡ I = c.in_ok-collapse.ensures.area in
    let is : n ≡ N = c.in_ok-collapse.ensures.mesh in
    let ring = c.held_around.new.names.items in
    let names = c.names_around.new.names.items in
    let near : IsAround I N.mesh v ring old names =
    at_made I J N n area is (λ K m. IsAround K m.mesh v ring old names)
    (subst (λ ns. IsAround J n.mesh v ns old names) c.deref.ensures.value c.in_ok-names_around.ensures.around) in
    let slice = c.deref-2.result.now in
    let listed : slice ≡ names = c.deref-2.ensures.value in
    λ x on. subst (λ (p : Queued). finite.contains_key p.stamps x ≡ true) (sym c.restamp.ensures)
    (keys_then I w.mesh u v x s q c.requires.fit (near.held x (subst (λ ns. among x ns ≡ true) listed on)))

pub restamp_all-requires-clause-later : goal.restamp_all-requires-clause-later
restamp_all-requires-clause-later g c =
    let I = g.M.Simplifiable.inside c.args.mesh.now in
    let w = g.M.Simplifiable.seen c.args.mesh.now in
    let u = c.args.step.now.u in
    let v = c.args.step.now.v in
    let s = c.args.stamp in
    let q = c.args.queue.now in
    let old = c.args.refused.now in
    let J = g.M.Simplifiable.inside c.collapse.new.self in
    let n = g.M.Simplifiable.seen c.collapse.new.self in
    let N = contracted w u v in
    let area : J ≡ I = c.in_ok-collapse.ensures.area in
    let is : n ≡ N = c.in_ok-collapse.ensures.mesh in
    let ring = c.held_around.new.names.items in
    let names = c.names_around.new.names.items in
    let near : IsAround I N.mesh v ring old names =
    at_made I J N n area is (λ K m. IsAround K m.mesh v ring old names)
    (subst (λ ns. IsAround J n.mesh v ns old names) c.deref.ensures.value c.in_ok-names_around.ensures.around) in
    let slice = c.deref-2.result.now in
    let listed : slice ≡ names = c.deref-2.ensures.value in
    λ x on. subst (λ (p : Queued). stamp_in p.stamps x < s) (sym c.restamp.ensures)
    (later_then I w.mesh u v x s q c.requires.fit (near.held x (subst (λ ns. among x ns ≡ true) listed on)))

pub clear_all-requires : goal.clear_all-requires
clear_all-requires g c =
    let I = g.M.Simplifiable.inside c.args.mesh.now in
    let w = g.M.Simplifiable.seen c.args.mesh.now in
    let u = c.args.step.now.u in
    let v = c.args.step.now.v in
    let old = c.args.refused.now in
    let J = g.M.Simplifiable.inside c.collapse.new.self in
    let n = g.M.Simplifiable.seen c.collapse.new.self in
    let N = contracted w u v in
    let area : J ≡ I = c.in_ok-collapse.ensures.area in
    let is : n ≡ N = c.in_ok-collapse.ensures.mesh in
    let ring = c.held_around.new.names.items in
    let names = c.names_around.new.names.items in
    let near : IsAround I N.mesh v ring old names =
    at_made I J N n area is (λ K m. IsAround K m.mesh v ring old names)
    (subst (λ ns. IsAround J n.mesh v ns old names) c.deref.ensures.value c.in_ok-names_around.ensures.around) in
    λ x on. c.requires.ready.keys x
    (held_before I w.mesh u v x (near.held x (subst (λ ns. among x ns ≡ true) c.deref-3.ensures.value on)))

pub fill-requires-clause-once : goal.fill-requires-clause-once
fill-requires-clause-once g c =
    subst IsStrictlyIncreasing (sym c.deref-4.ensures.value) c.in_ok-names_around.ensures.once

pub fill-requires-clause-held : goal.fill-requires-clause-held
fill-requires-clause-held g c =
    let I = g.M.Simplifiable.inside c.args.mesh.now in
    let w = g.M.Simplifiable.seen c.args.mesh.now in
    let u = c.args.step.now.u in
    let v = c.args.step.now.v in
    let old = c.args.refused.now in
    let J = g.M.Simplifiable.inside c.collapse.new.self in
    let n = g.M.Simplifiable.seen c.collapse.new.self in
    let N = contracted w u v in
    let area : J ≡ I = c.in_ok-collapse.ensures.area in
    let is : n ≡ N = c.in_ok-collapse.ensures.mesh in
    let ring = c.held_around.new.names.items in
    let names = c.names_around.new.names.items in
    let near : IsAround I N.mesh v ring old names =
    at_made I J N n area is (λ K m. IsAround K m.mesh v ring old names)
    (subst (λ ns. IsAround J n.mesh v ns old names) c.deref.ensures.value c.in_ok-names_around.ensures.around) in
    λ x on. to_made I J N n area is (λ K m. is_held K m.mesh x ≡ true)
    (near.held x (subst (λ ns. among x ns ≡ true) c.deref-4.ensures.value on))

pub fill-requires-clause-stamped : goal.fill-requires-clause-stamped
fill-requires-clause-stamped g c =
    let u = c.args.step.now.u in
    let s = c.args.stamp in
    let q = c.args.queue.now in
    let names = c.names_around.new.names.items in
    let slice = c.deref-2.result.now in
    let listed : slice ≡ names = c.deref-2.ensures.value in
    let first : c.restamp.new.self ≡ restamped u s q = c.restamp.ensures in
    let r = c.restamp_all.new.queue in
    let each : IsRestamped names s (restamped u s q) r =
    subst (λ (p : Queued). IsRestamped names s p r) first
    (subst (λ ns. IsRestamped ns s c.restamp.new.self r) listed c.restamp_all.ensures) in
    subst (λ ns. AreStamped ns s r) (sym c.deref-4.ensures.value)
    (are_stamped names s (restamped u s q) r each c.requires.fit.items)

pub fill-requires-clause-roomy : goal.fill-requires-clause-roomy
fill-requires-clause-roomy g c =
    let I = g.M.Simplifiable.inside c.args.mesh.now in
    let w = g.M.Simplifiable.seen c.args.mesh.now in
    let top = to_z w128 (of_z w128 c.args.max) in
    let same : top ≡ c.args.max = to_z-of_z w128 c.args.max (search rules) in
    let u = c.args.step.now.u in
    let v = c.args.step.now.v in
    let k = c.args.step.now.cost in
    let s = c.args.stamp in
    let q = c.args.queue.now in
    let old = c.args.refused.now in
    let done : collapse_reply I w u v top ≡ DoneAt k =
    subst (λ (z : ℤ). collapse_reply I w u v z ≡ DoneAt k) (sym same) c.requires.done in
    let J = g.M.Simplifiable.inside c.collapse.new.self in
    let n = g.M.Simplifiable.seen c.collapse.new.self in
    let N = contracted w u v in
    let area : J ≡ I = c.in_ok-collapse.ensures.area in
    let is : n ≡ N = c.in_ok-collapse.ensures.mesh in
    let ring = c.held_around.new.names.items in
    let around = c.in_ok-held_around.ensures.around in
    let names = c.names_around.new.names.items in
    let near : IsAround I N.mesh v ring old names =
    at_made I J N n area is (λ K m. IsAround K m.mesh v ring old names)
    (subst (λ ns. IsAround J n.mesh v ns old names) c.deref.ensures.value c.in_ok-names_around.ensures.around) in
    let ready : IsReadyBut (λ x. x ≡ u) I top w q old =
    subst (λ (z : ℤ). IsReadyBut (λ x. x ≡ u) I z w q old) (sym same) c.requires.ready in
    let enough = enough_of I top w q old u v k ring names done around near ready in
    let slice = c.deref-2.result.now in
    let listed : slice ≡ names = c.deref-2.ensures.value in
    let first : c.restamp.new.self ≡ restamped u s q = c.restamp.ensures in
    let r = c.restamp_all.new.queue in
    let each : IsRestamped names s (restamped u s q) r =
    subst (λ (p : Queued). IsRestamped names s p r) first
    (subst (λ ns. IsRestamped ns s c.restamp.new.self r) listed c.restamp_all.ensures) in
    let both = restamped_first u s names q r each in
    to_made I J N n area is (λ K m. IsRoomy K m.mesh r)
    (roomy_then I top w q r u v s (u ∷ names) c.requires.order
    (pair_of_done I w u v top k done).near enough c.requires.fit both)

pub returns-clause-ready : goal.returns-clause-ready
returns-clause-ready g c =
    let I = g.M.Simplifiable.inside c.args.mesh.now in
    let w = g.M.Simplifiable.seen c.args.mesh.now in
    let top = to_z w128 (of_z w128 c.args.max) in
    let same : top ≡ c.args.max = to_z-of_z w128 c.args.max (search rules) in
    let u = c.args.step.now.u in
    let v = c.args.step.now.v in
    let k = c.args.step.now.cost in
    let s = c.args.stamp in
    let q = c.args.queue.now in
    let old = c.args.refused.now in
    let done : collapse_reply I w u v top ≡ DoneAt k =
    subst (λ (z : ℤ). collapse_reply I w u v z ≡ DoneAt k) (sym same) c.requires.done in
    let J = g.M.Simplifiable.inside c.collapse.new.self in
    let n = g.M.Simplifiable.seen c.collapse.new.self in
    let N = contracted w u v in
    let area : J ≡ I = c.in_ok-collapse.ensures.area in
    let is : n ≡ N = c.in_ok-collapse.ensures.mesh in
    let ring = c.held_around.new.names.items in
    let around = c.in_ok-held_around.ensures.around in
    let names = c.names_around.new.names.items in
    let near : IsAround I N.mesh v ring old names =
    at_made I J N n area is (λ K m. IsAround K m.mesh v ring old names)
    (subst (λ ns. IsAround J n.mesh v ns old names) c.deref.ensures.value c.in_ok-names_around.ensures.around) in
    let ready : IsReadyBut (λ x. x ≡ u) I top w q old =
    subst (λ (z : ℤ). IsReadyBut (λ x. x ≡ u) I z w q old) (sym same) c.requires.ready in
    let enough = enough_of I top w q old u v k ring names done around near ready in
    let slice = c.deref-2.result.now in
    let listed : slice ≡ names = c.deref-2.ensures.value in
    let first : c.restamp.new.self ≡ restamped u s q = c.restamp.ensures in
    let r = c.restamp_all.new.queue in
    let each : IsRestamped names s (restamped u s q) r =
    subst (λ (p : Queued). IsRestamped names s p r) first
    (subst (λ ns. IsRestamped ns s c.restamp.new.self r) listed c.restamp_all.ensures) in
    let both = restamped_first u s names q r each in
    let t = c.fill.new.queue in
    let filled : IsFilled I top N (all_of names) s r t =
    at_made I J N n area is (λ K m. IsFilled K top m (all_of names) s r t)
    (subst (λ ns. IsFilled J top n (all_of ns) s r t) c.deref-4.ensures.value c.in_ok-fill.ensures) in
    let marks = c.clear_all.new.refused in
    let cleared : IsCleared names old marks =
    subst (λ ns. IsCleared ns old marks) c.deref-3.ensures.value c.clear_all.ensures in
    subst (λ (z : ℤ). IsReady J z n t marks) same
    (to_made I J N n area is (λ K m. IsReady K top m t marks)
    (ready_then I top w u v s k names q r t old marks c.requires.order done enough ready c.requires.fit both cleared
    filled))

pub returns-clause-fit : goal.returns-clause-fit
returns-clause-fit g c =
    let I = g.M.Simplifiable.inside c.args.mesh.now in
    let w = g.M.Simplifiable.seen c.args.mesh.now in
    let top = to_z w128 (of_z w128 c.args.max) in
    let u = c.args.step.now.u in
    let v = c.args.step.now.v in
    let s = c.args.stamp in
    let q = c.args.queue.now in
    let J = g.M.Simplifiable.inside c.collapse.new.self in
    let n = g.M.Simplifiable.seen c.collapse.new.self in
    let N = contracted w u v in
    let area : J ≡ I = c.in_ok-collapse.ensures.area in
    let is : n ≡ N = c.in_ok-collapse.ensures.mesh in
    let names = c.names_around.new.names.items in
    let slice = c.deref-2.result.now in
    let listed : slice ≡ names = c.deref-2.ensures.value in
    let first : c.restamp.new.self ≡ restamped u s q = c.restamp.ensures in
    let r = c.restamp_all.new.queue in
    let each : IsRestamped names s (restamped u s q) r =
    subst (λ (p : Queued). IsRestamped names s p r) first
    (subst (λ ns. IsRestamped ns s c.restamp.new.self r) listed c.restamp_all.ensures) in
    let both = restamped_first u s names q r each in
    let t = c.fill.new.queue in
    let filled : IsFilled I top N (all_of names) s r t =
    at_made I J N n area is (λ K m. IsFilled K top m (all_of names) s r t)
    (subst (λ ns. IsFilled J top n (all_of ns) s r t) c.deref-4.ensures.value c.in_ok-fill.ensures) in
    to_made I J N n area is (λ K m. IsFit K m.mesh (s + 1) t)
    (fit_then I top w u v s names (u ∷ names) q r t c.requires.fit both filled)
