use Rattle.std.proofs.Common.{◌≡◌, ◌++◌, map}
use Rattle.std.specs.FinMap as finite
use Rattle.std.specs.Ordering.{nat_cmp}
use Rattle.std.specs.Map.Iter.{deref_pair}
use Rattle.mesh_model.proofs.vertex_map.VertexMap.copy.Given as goal

abbrev pub invariant-loop-name : goal.invariant-loop-name
invariant-loop-name l = record {
  can : (goal.iterator-loop-name).can_next l.name-iterator;
  ends : (goal.iterator-loop-name).is_finite l.name-iterator;
  told : map deref_pair l.yielded ++ l.name-iterator ≡ finite.entries l.self;
  copied : l.copy ≡ finite.from_entries {R = nat_cmp} (map deref_pair l.yielded);
}
