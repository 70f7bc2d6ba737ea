-- How the first word of a line is read, by where it stands.
use Rattle.std.proofs.Common.{◌≡◌, true, false, refl}
use Rattle.std.specs.Prelude.{Option, Some, None, Ok}
use Rattle.co_grammar.specs.declared.Kind.{Kind}
use Rattle.co_grammar.specs.declared.Verb.{Verb}
use Rattle.co_grammar.specs.declared.Opener.TheVariants.{Frame, Act}
use Rattle.co_script.specs.Reading.{opener_by}

-- inside a section a word that begins an act is read as the act
pub act_within : (k : Option Kind) (v : Verb) → opener_by true k (Some v) ≡ Ok (Act v)
act_within None v = refl
act_within (Some k) v = refl

-- outside a section a word that begins a line of the frame is read as this line
pub frame_outside : (k : Kind) (v : Option Verb) → opener_by false (Some k) v ≡ Ok (Frame k)
frame_outside k None = refl
frame_outside k (Some v) = refl
