-- Which kinds of asset deliver energy to the pool and which take energy from it. Assumes nothing.
use Rattle.std.specs.Prelude.{ℕ, Bool, true, false, cond, Ok, Err, Result, ◌==◌}
use Rattle.prices.specs.declared.kind.Kind.{Kind}
use Rattle.prices.specs.declared.kind.Kind.TheVariants.{Generator, Import, Load, Export}
use Rattle.prices.specs.declared.kind.UnknownLetter.{UnknownLetter}

-- generators and imports are sources
abbrev pub source : Kind → Bool
source Generator = true
source Import = true
source Load = false
source Export = false

-- loads and exports are sinks
abbrev pub sink : Kind → Bool
sink Generator = false
sink Import = false
sink Load = true
sink Export = true

-- only generators set a price
abbrev pub generator : Kind → Bool
generator Generator = true
generator Import = false
generator Load = false
generator Export = false

-- the kind that a letter stands for, G (71), I (73), L (76) or X (88), or an error that holds the letter
abbrev pub kind_of_letter : ℕ → Result Kind UnknownLetter
kind_of_letter letter =
    cond (letter == 71) (Ok Generator) (cond (letter == 73) (Ok Import) (cond (letter == 76) (Ok Load) (cond (letter == 88) (Ok Export) (Err (record { 0 = letter })))))
