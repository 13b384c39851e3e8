-- The stages of an instruction. Assumes nothing.
use Rattle.std.specs.Prelude.{Some, None, Option}
use Rattle.hour.specs.declared.instruction.Instruction.{Instruction}
use Rattle.hour.specs.declared.instruction.Instruction.TheVariants.{Free, Proposed, Matched}
use Rattle.hour.specs.declared.instruction.Terms.{Terms}
use Rattle.hour.specs.declared.instruction.Event.{Event}
use Rattle.hour.specs.declared.instruction.Event.TheVariants.{Propose, Confirm, Withdraw}

-- free to proposed by propose, proposed to matched by confirm, either of these back to free by withdraw, and no other way
abbrev pub next_stage : Instruction → Event → Option Instruction
next_stage Free (Propose terms) = Some (Proposed terms)
next_stage Free Confirm = None
next_stage Free Withdraw = None
next_stage (Proposed terms) (Propose other) = None
next_stage (Proposed terms) Confirm = Some (Matched terms)
next_stage (Proposed terms) Withdraw = Some Free
next_stage (Matched terms) (Propose other) = None
next_stage (Matched terms) Confirm = None
next_stage (Matched terms) Withdraw = Some Free

-- the terms of an instruction, none while it is free
abbrev pub held_terms : Instruction → Option Terms
held_terms Free = None
held_terms (Proposed terms) = Some terms
held_terms (Matched terms) = Some terms

-- the terms of an instruction, zeros while it is free
abbrev pub terms_of : Instruction → Terms
terms_of Free = record { source = 0; sink = 0; kwh = 0 }
terms_of (Proposed terms) = terms
terms_of (Matched terms) = terms
