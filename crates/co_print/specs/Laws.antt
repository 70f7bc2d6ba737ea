-- A report shows the histories of its lists.
use Rattle.std.specs.Prelude.{◌≡◌, List, map}
use Rattle.co_object.specs.declared.Note.{Note}
use Rattle.co_object.specs.declared.Place.{Place}
use Rattle.co_object.specs.Lists.{history}
use Rattle.co_print.specs.Histories.{shown_history}

abbrev pub EachHistoryIsShown : Type 0
EachHistoryIsShown = (place : Place) (lists : List (List Note)) → map (λ shown. shown.entry) (shown_history lists place) ≡ history place lists
