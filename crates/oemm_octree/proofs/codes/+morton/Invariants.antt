use Rattle.oemm_octree.proofs.codes.+morton.Given as goal

abbrev pub decreases-morton : goal.decreases-morton
decreases-morton l = l.depth
