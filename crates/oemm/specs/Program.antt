-- What the program does with its words.
use Rattle.std.specs.Prelude.{◌≡◌, ◌⊎◌, ℕ, false, List, None}
use Rattle.oemm_run.specs.declared.end.End.{End}
use Rattle.oemm_run.specs.declared.end.End.TheVariants.{Memory}
use Rattle.oemm_run.specs.Gives.{Gives}
use Rattle.oemm_run.specs.Outside.{Outside, input, output}

-- files and standard output before the first call: they tell no bytes, and haven't failed
abbrev pub untouched : Outside
untouched = record {
  mesh = input None 0;
  script = input None 0;
  out = output None 0 false;
  report = output None 0 false;
}

-- the end is one that the top call gives on files and standard output, or memory was wanting for these
abbrev pub EndsOn : List (List ℕ) → End → Type 0
EndsOn words end = ((after : Outside) × Gives words untouched after end) ⊎ (end ≡ Memory)
