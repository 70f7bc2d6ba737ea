-- Parts one behind the other: what holds of all items of each part holds of all items.
use Rattle.std.proofs.Common.{◌≡◌, List, [], ◌∷◌, ◌++◌, map, Result, Ok, refl, ap, subst, sym, ◌∙◌, append-nil}
use Rattle.std.specs.Prelude.{IfOk}
use Rattle.std.specs.List.{All, flat_map}
use Rattle.std.proofs.lemmas.Grind.{flat_map-append}
use Rattle.std.proofs.lemmas.List.{map-append}
use Rattle.std.proofs.lemmas.List.Elements.{All-nil, All-append, All-head, All-tail}
use Rattle.co_script.specs.Joined.{AreJoined}

module _ {T E : Type 0} where
  pub joined_none : AreJoined {T = T} {E = E} [] []
  joined_none = record { lists = []; none_refused = refl; joined = refl }

  -- one part more
  pub joined_snoc : (parts : List (Result (List T) E)) (all : List T) (part : Result (List T) E) (list now : List T) → AreJoined parts all → part ≡ Ok list → now ≡ all ++ list → AreJoined (parts ++ part ∷ []) now
  joined_snoc parts all part list now before is more = record {
    lists = before.lists ++ list ∷ [];
    none_refused = ap (λ ps. ps ++ part ∷ []) before.none_refused ∙ (ap (λ p. map Ok before.lists ++ p ∷ []) is ∙ sym (map-append Ok before.lists (list ∷ [])));
    joined = more ∙ (ap (λ xs. xs ++ list) before.joined ∙ (ap (λ xs. flat_map (λ xs. xs) before.lists ++ xs) (sym (append-nil list)) ∙ sym (flat_map-append (λ xs. xs) before.lists (list ∷ []))));
  }

  abbrev pub IsOkAll : (T → Type 0) → Result (List T) E → Type 0
  IsOkAll P part = IfOk part (All P)

  lists_all : (P : T → Type 0) (lists : List (List T)) → All (IsOkAll P) (map Ok lists) → All P (flat_map (λ list. list) lists)
  lists_all P [] each = All-nil P
  lists_all P (list ∷ lists) each = All-append P list (flat_map (λ xs. xs) lists) (All-head (IsOkAll P) (Ok list) (map Ok lists) each) (lists_all P lists (All-tail (IsOkAll P) (Ok list) (map Ok lists) each))

  pub joined_all : (P : T → Type 0) (parts : List (Result (List T) E)) (all : List T) → AreJoined parts all → All (IsOkAll P) parts → All P all
  joined_all P parts all are each = subst (All P) (sym are.joined) (lists_all P are.lists (subst (All (IsOkAll P)) are.none_refused each))
