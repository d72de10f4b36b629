-- Quadrics, which hold the sums of planes.
use Rattle.mesh_data.specs.declared.quads.Quad.{Quad}
use Rattle.mesh_data.specs.Planes.{Sums}

-- the sums that a quadric holds
abbrev pub sums_in : Quad → Sums
sums_in q = record {
  planes = q.planes;
  aa = q.aa;
  ab = q.ab;
  ac = q.ac;
  ad = q.ad;
  bb = q.bb;
  bc = q.bc;
  bd = q.bd;
  cc = q.cc;
  cd = q.cd;
  dd = q.dd;
}
