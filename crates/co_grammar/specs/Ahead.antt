-- Acts at the front of a text whose line isn't cut yet.
use Rattle.std.specs.Prelude.{ℕ, ◌≡◌, ◌<◌, ◌≤◌, Bool, true, false, ◌&&◌, not, List, [], ◌∷◌, ◌++◌, length, Some, Result, Ok, nat_le, ◌==◌, codes}
use Rattle.std.specs.List.{list_all}
use Rattle.std.specs.Char.{is_ascii_digit}
use Rattle.co_text.specs.Lines.{Line, lines_of, content, words, spaced}
use Rattle.co_text.specs.Values.{Word, spelled_after}
use Rattle.co_text.specs.declared.Cause.{Cause}
use Rattle.co_program.specs.declared.Act.{Act}
use Rattle.co_program.specs.declared.Where.{Where}
use Rattle.co_grammar.specs.Forms.{optional_cpu, act_form}
use Rattle.co_grammar.specs.Keywords.{verb_of}
use Rattle.co_grammar.specs.declared.keyword.Verb.{Verb}
use Rattle.co_grammar.specs.declared.keyword.Verb.TheVariants as verb

-- the word of a verb
abbrev pub verb_word : Verb → Word
verb_word verb.Now = codes "now"
verb_word verb.Lock = codes "lock"
verb_word verb.ReadLock = codes "rlock"
verb_word verb.Unlock = codes "unlock"
verb_word verb.Reset = codes "reset"
verb_word verb.Ticks = codes "ticks"
verb_word verb.Schedule = codes "schedule"
verb_word verb.Stop = codes "stop"
verb_word verb.Drain = codes "drain"
verb_word verb.AsyncDrain = codes "adrain"
verb_word verb.Active = codes "active"
verb_word verb.Pending = codes "pending"
verb_word verb.Deactivate = codes "deactivate"
verb_word verb.Init = codes "init"
verb_word verb.Retire = codes "retire"
verb_word verb.Tick = codes "tick"

-- a verb of each version
abbrev pub is_old : Verb → Bool
is_old verb.Init = false
is_old verb.Retire = false
is_old _ = true

-- a verb of a callout alone
abbrev pub is_of_who : Verb → Bool
is_of_who verb.Stop = true
is_of_who verb.Active = true
is_of_who verb.Pending = true
is_of_who verb.Deactivate = true
is_of_who verb.Init = true
is_of_who verb.Retire = true
is_of_who _ = false

-- the text begins with the verb's word, and this stands behind it
pub record BeginsWith (text : List ℕ) (v : Verb) (rest : List ℕ) : Type 0 where
  pub front : text ≡ verb_word v ++ rest
  pub old : is_old v ≡ true

-- a byte of a word, as printed: no blank and no `#`
abbrev pub is_ink : ℕ → Bool
is_ink c = nat_le 33 c && (nat_le c 126 && not (c == 35))

abbrev pub is_inked : Word → Bool
is_inked [] = false
is_inked (c ∷ w) = list_all is_ink (c ∷ w)

-- up to 18 digits, and what they spell
pub record SpellsFew (digits : Word) (n : ℕ) : Type 0 where
  pub all : list_all is_ascii_digit digits ≡ true
  pub few : length digits ≤ 18
  pub spells : n ≡ spelled_after 0 digits

-- the text begins with a number of up to 18 digits, and this stands behind it
pub record IsNumber (text : List ℕ) (n : ℕ) (rest : List ℕ) : Type 0 where
  pub word : Word
  pub front : text ≡ word ++ rest
  pub some : 0 < length word
  pub spells : SpellsFew word n

-- the text begins with a word that has this value, and this stands behind it
pub record IsAhead {X : Type 0} (value : Word → Result X Cause) (text : List ℕ) (x : X) (rest : List ℕ) : Type 0 where
  pub word : Word
  pub front : text ≡ word ++ rest
  pub inked : is_inked word ≡ true
  pub reads : value word ≡ Ok x

-- the same behind a space
abbrev pub IsNext : {X : Type 0} → (Word → Result X Cause) → List ℕ → X → List ℕ → Type 0
IsNext value rest x after = (text : List ℕ) × (rest ≡ 32 ∷ text) × IsAhead value text x after

-- words up to the end of a line, of which this is read whether the act is of a function or not, and what stands behind the line
pub record EndsBy {X : Type 0} (form : Bool → List Word → Result X Cause) (rest : List ℕ) (x : X) (after : List ℕ) : Type 0 where
  pub others : List Word
  pub front : rest ≡ spaced others ++ 10 ∷ after
  pub inked : list_all is_inked others ≡ true
  pub reads : (serviced : Bool) → form serviced others ≡ Ok x

-- the words of this verb's act up to the end of a line
abbrev pub EndsAct : Verb → List ℕ → Act → List ℕ → Type 0
EndsAct v rest a after = EndsBy (λ serviced. act_form serviced v) rest a after

-- an optional CPU, and no word behind it
abbrev pub EndsCpu : List ℕ → Where → List ℕ → Type 0
EndsCpu rest place after = EndsBy (λ _. optional_cpu) rest (place, []) after

-- the line at the front of a text has these words, and this stands behind the line
pub record HasWords (text : List ℕ) (first : Word) (others : List Word) (after : List ℕ) : Type 0 where
  pub line : Line
  pub part : List ℕ
  pub lines : lines_of text ≡ line ∷ lines_of after
  pub reads : content line ≡ Ok part
  pub splits : words part ≡ first ∷ others
  pub shorter : length after < length text

-- its words say this act
pub record SaysAhead (text : List ℕ) (v : Verb) (a : Act) (after : List ℕ) : Type 0 where
  pub first : Word
  pub others : List Word
  pub has : HasWords text first others after
  pub verb : (version : ℕ) → verb_of version first ≡ Some v
  pub form : (serviced : Bool) → act_form serviced v others ≡ Ok a
