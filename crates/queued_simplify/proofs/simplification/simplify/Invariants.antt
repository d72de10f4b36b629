use Rattle.std.proofs.Common.{◌≡◌, ◌++◌, ◌+◌, List, length}
use Rattle.std.specs.FinMap as finite
use Rattle.mesh_data.specs.declared.edits.Step.{Step}
use Rattle.queued_simplify.specs.Errors.{contracted_by, made_by}
use Rattle.queued_simplify.specs.LeastSteps.{AreLeastStepsBy}
use Rattle.queued_simplify.specs.Turns.{IsFit, IsInOrder, IsReady}
use Rattle.queued_simplify.proofs.simplification.simplify.Given as goal

abbrev pub invariant-loop-alloc : goal.invariant-loop-alloc
invariant-loop-alloc g l =
    let inside = g.M.Simplifiable.inside l.fn.mesh in
    let first = g.M.Simplifiable.seen l.fn.mesh in
    let now = g.M.Simplifiable.seen l.mesh in
    record {
      area : g.M.Simplifiable.inside l.mesh ≡ inside;
      order : IsInOrder now.mesh;
      ready : IsReady inside l.max now l.queue l.refused;
      fit : IsFit inside now.mesh (length l.steps.items + 1) l.queue;
      kept : l.mesh ≡ made_by g.M.Simplifiable.collapsed l.fn.mesh l.steps.items;
      rest : g.M.Simplifiable.rest l.mesh ≡ g.M.Simplifiable.rest l.fn.mesh;
      made : now ≡ contracted_by first l.steps.items;
      least : (rest : List Step) → AreLeastStepsBy inside now l.max l.target rest
          → AreLeastStepsBy inside first l.max l.target (l.steps.items ++ rest);
    }

abbrev pub decreases-loop-alloc : goal.decreases-loop-alloc
decreases-loop-alloc g l = finite.len (g.M.Simplifiable.seen l.mesh).mesh.vertices
