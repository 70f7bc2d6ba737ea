-- What stands behind a first word, where the words are tried in place one after another.
use Rattle.std.proofs.Common.{◌≡◌, Bool, true, false, List, [], ◌∷◌, refl, ap, sym, subst, ◌∙◌}
use Rattle.std.specs.Prelude.{Result, Ok, Err, if◌then◌else◌}
use Rattle.co_text.specs.Fallible.{Gives}
use Rattle.co_text.specs.Values.{Word, is_word}
use Rattle.co_text.specs.Taking.{Read, option}
use Rattle.co_text.specs.declared.Cause.{Cause}
use Rattle.co_text.specs.declared.Cause.TheVariants.{Form}
use Rattle.co_notes.specs.NoteForms.{Reader, choice, one_of}
use Rattle.co_notes.proofs.Exact.{same_pair}
use Rattle.co_notes.proofs.PlainParts.{taken_head, not_taken}

-- the words that a test answers for
abbrev Tried : Word → List Word → Bool → List Word → Type 0
Tried v ws b us = option v ws ≡ Ok (b, us)

tried-as : (b k : Bool) (v : Word) (ws us : List Word) → b ≡ k → Tried v ws b us → Tried v ws k us
tried-as b k v ws us e h = subst (λ (k : Bool). Tried v ws k us) e h

-- this word is first, so its form is read
pub chosen : {X Y : Type 0} (forms : List (Word × Reader Y)) (form : Reader Y) (view : X → Y × List Word) (r : Result X Cause) (v w : Word) (ws us : List Word) (b : Bool)
    → ((vs : List Word) → choice forms w vs ≡ form vs) → v ≡ w → option v ws ≡ Ok (b, us) → b ≡ true → Gives view r (form us) → Gives view r (one_of forms ws)
chosen forms form view r v w ws us b found same e taken h =
    let first : ws ≡ w ∷ us = taken_head v ws us (tried-as b true v ws us taken e) ∙ ap (λ x. x ∷ us) same in
    subst (Gives view r) (sym (ap (one_of forms) first ∙ found us)) h

-- it is not, so nothing is taken yet
pub passed : {X Y : Type 0} (read : Reader Y) (view : X → Y × List Word) (r : Result X Cause) (v : Word) (ws us : List Word) (b : Bool)
    → option v ws ≡ Ok (b, us) → b ≡ false → Gives view r (read us) → Gives view r (read ws)
passed read view r v ws us b e left h = subst (λ vs. Gives view r (read vs)) (not_taken v ws us (tried-as b false v ws us left e)) h

-- the first word of a table is not next, so its others are left
other_word : {Y : Type 0} (w : Word) (form : Reader Y) (forms : List (Word × Reader Y)) (ws us : List Word) → Tried w ws false us → one_of ((w, form) ∷ forms) ws ≡ one_of forms ws
other_word w form forms [] us e = refl
other_word {Y} w form forms (v ∷ ws) us e = go (is_word v w) e where
  go : (b : Bool) → ◌≡◌ {A = Read Bool} (if b then Ok (true, ws) else Ok (false, v ∷ ws)) (Ok (false, us)) → (if b then form ws else choice forms v ws) ≡ choice forms v ws
  go true h = let f : true ≡ false = (same_pair true false ws us h).0 in cc
  go false h = refl

-- no word is left to be tried
no_form : {Y : Type 0} (ws : List Word) → ◌≡◌ {A = Read Y} (one_of [] ws) (Err Form)
no_form [] = refl
no_form (w ∷ ws) = refl

-- none of the words of a table is next
abbrev pub Untried : {Y : Type 0} → List (Word × Reader Y) → List Word → Type 0
Untried [] ws = Unit {0}
Untried (c ∷ cs) ws = Tried c.0 ws false ws × Untried cs ws

pub none_next : {Y : Type 0} (forms : List (Word × Reader Y)) (ws : List Word) → Untried forms ws → one_of forms ws ≡ Err Form
none_next [] ws h = no_form ws
none_next (c ∷ cs) ws h = other_word c.0 c.1 cs ws ws h.0 ∙ none_next cs ws h.1

-- a word that is not taken, by the words that were left before it
pub untaken : (v w : Word) (ws us vs : List Word) (b : Bool) → v ≡ w → us ≡ ws → option v us ≡ Ok (b, vs) → b ≡ false → option w ws ≡ Ok (false, ws)
untaken v w ws us vs b same at e left =
    let tried : Tried w us false vs = tried-as b false w us vs left (subst (λ (x : Word). Tried x us b vs) same e) in
    subst (λ (x : List Word). Tried w x false x) at (subst (λ (x : List Word). Tried w us false x) (not_taken w us vs tried) tried)

pub unmoved : (v : Word) (ws us vs : List Word) (b : Bool) → us ≡ ws → option v us ≡ Ok (b, vs) → b ≡ false → vs ≡ ws
unmoved v ws us vs b at e left = not_taken v us vs (tried-as b false v us vs left e) ∙ at
