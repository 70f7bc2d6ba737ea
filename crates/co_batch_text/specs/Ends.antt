-- What a run does to the service of one CPU that answers its commands, and what the service's end tells of it.
use Rattle.std.specs.Prelude.{◌≡◌, ℕ, ◌+◌, List, [], ◌∷◌, ◌++◌, drop, Ok, slice_index_or}
use Rattle.std.specs.List.{filter_map}
use Rattle.std.specs.Option.{option_to_list}
use Rattle.co_text.specs.Lines.{text}
use Rattle.co_batch.specs.Language.{Language}
use Rattle.co_batch.specs.Answers.{Answering, answers}
use Rattle.co_batch.specs.Batches.{Batch}
use Rattle.co_batch.specs.Reading.{batch_of}
use Rattle.co_service.specs.Closing.{ClosingView}
use Rattle.co_desk.specs.Views.{PassesView}
use Rattle.co_single.specs.Alarms.{all_gos, scan_times, scan_times_of}

-- a command whose texts such a service answers
pub record Served (C S : Type 0) : Type 0 where
  pub language : Language C
  pub answering : Answering C S
  -- how many functions a command's answer counts, by the count of the text and what stands before the command
  pub counted : ℕ → S → C → ℕ

module _ {C S : Type 0} (served : Served C S) where
  -- the times of the ticks, in order
  abbrev pub tick_times : List C → List ℕ
  tick_times cs = filter_map served.language.moment cs

  -- how many functions the answers count, in all
  abbrev pub all_counted : ℕ → S → List C → ℕ
  all_counted n s [] = 0
  all_counted n s (c ∷ cs) = served.counted n s c + all_counted n (served.answering.after n s c) cs

-- one command: what stands after it, its scan, if it is a tick, and as many functions called as it counts
pub record IsServed {C S : Type 0} (served : Served C S) (n : ℕ) (s : S) (p : PassesView) (c : C) (t : S) (q : PassesView) : Type 0 where
  pub state : t ≡ served.answering.after n s c
  pub scans : scan_times_of q ≡ scan_times_of p ++ option_to_list (served.language.moment c)
  pub gos : all_gos q.timers ≡ all_gos p.timers + served.counted n s c

-- commands, one after the other
pub record AreServed {C S : Type 0} (served : Served C S) (n : ℕ) (s : S) (p : PassesView) (cs : List C) (q : PassesView) : Type 0 where
  pub scans : scan_times_of q ≡ scan_times_of p ++ tick_times served cs
  pub gos : all_gos q.timers ≡ all_gos p.timers + all_counted served n s cs

-- i commands were answered, and what is to come ends as all of it does
pub record IsUnderWay {C S : Type 0} (served : Served C S) (n : ℕ) (s : S) (p : PassesView) (page : List ℕ) (cs : List C) (i : ℕ) (t : S) (q : PassesView) (written : List ℕ) : Type 0 where
  pub text_is : written ++ text (answers served.answering n t (drop i cs)) ≡ page ++ text (answers served.answering n s cs)
  pub scans : scan_times_of q ++ tick_times served (drop i cs) ≡ scan_times_of p ++ tick_times served cs
  pub gos : all_gos q.timers + all_counted served n t (drop i cs) ≡ all_gos p.timers + all_counted served n s cs

-- CPU 0's scans are the ticks, in order; all callouts together have called their functions as often as the answers count
pub record IsEnd {C S : Type 0} (served : Served C S) (b : Batch C) (closing : ClosingView) : Type 0 where
  pub scans : scan_times (slice_index_or closing.cpus 0 []) ≡ tick_times served b.commands
  pub gos : all_gos closing.timers ≡ all_counted served b.count (served.answering.opens b.count) b.commands

-- the same of the batch that the bytes stand for
abbrev pub EndsBatch : {C S : Type 0} → Served C S → List ℕ → ClosingView → Type 0
EndsBatch {C} served bytes closing = (b : Batch C) → batch_of served.language bytes ≡ Ok b → IsEnd served b closing
