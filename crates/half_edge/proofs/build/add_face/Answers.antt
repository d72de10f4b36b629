use Rattle.half_edge.specs.Building.{edge_key, Added}
use Rattle.half_edge.proofs.EdgeKeys.{tells_added, three_told}
use Rattle.half_edge.proofs.build.add_face.Goals as goal

pub returns-clause-tells : goal.returns-clause-tells
returns-clause-tells c =
    let t = c.args.t.now in
    let m = c.args.edges.now in
    let x : Added = record {
      k = c.in_ok-k.k;
      l = c.in_ok-k.l;
      m = c.in_ok-k.m;
      p = edge_key m t.b t.a;
      q =
          edge_key m t.c t.b;
      w = edge_key m t.a t.c;
    } in
    tells_added c.args.halves.now.slots c.add_halves.new.halves.slots t x m c.put_edge-3.new.edges c.in_ok-k.ensures
    c.requires.tells
    (three_told m c.put_edge.new.edges c.put_edge-2.new.edges c.put_edge-3.new.edges t x c.in_ok-put_edge.ensures
    c.in_ok-put_edge-2.ensures c.in_ok-put_edge-3.ensures)
