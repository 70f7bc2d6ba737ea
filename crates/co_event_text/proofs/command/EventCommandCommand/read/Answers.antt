use Rattle.std.proofs.Common.{◌≡◌, ◌∙◌, ap, sym, true, false, refl}
use Rattle.std.specs.Prelude.{codes, nat_lt}
use Rattle.co_text.specs.Values.{is_word, number, time}
use Rattle.co_batch.proofs.Stated.{any-mapped, in_range-mapped}
use Rattle.co_event_text.specs.Commands.{fits}
use Rattle.co_event_text.specs.declared.command.EventCommand.TheVariants.{Stop, Until}
use Rattle.co_event_text.proofs.command.EventCommandCommand.read.Goals as goal

pub returns-then-is_word : goal.returns-then-is_word
returns-then-is_word c =
    let is : is_word c.args.first.now (codes "arm") ≡ true = ap (is_word c.args.first.now) (sym c.as_slice.ensures) ∙ (sym c.is_word.ensures ∙ c.if-is_word.true) in
    rw is c.read_arm.ensures

pub returns-then-is_word-2 : goal.returns-then-is_word-2
returns-then-is_word-2 c =
    let no1 : is_word c.args.first.now (codes "arm") ≡ false = ap (is_word c.args.first.now) (sym c.as_slice.ensures) ∙ (sym c.is_word.ensures ∙ c.if-is_word.false) in
    let is : is_word c.args.first.now (codes "stop") ≡ true = ap (is_word c.args.first.now) (sym c.as_slice-else-is_word.ensures) ∙ (sym c.is_word-else-is_word.ensures ∙ c.if-is_word-2.true) in
    rw (no1, is) (in_range-mapped number Stop (fits c.args.count) c.args.words.now c.lone_object.result c.map.result c.map.ensures.cases (λ i. nat_lt i c.args.count) (λ i. refl) c.lone_object.ensures)

pub returns-then-is_word-3 : goal.returns-then-is_word-3
returns-then-is_word-3 c =
    let no1 : is_word c.args.first.now (codes "arm") ≡ false = ap (is_word c.args.first.now) (sym c.as_slice.ensures) ∙ (sym c.is_word.ensures ∙ c.if-is_word.false) in
    let no2 : is_word c.args.first.now (codes "stop") ≡ false = ap (is_word c.args.first.now) (sym c.as_slice-else-is_word.ensures) ∙ (sym c.is_word-else-is_word.ensures ∙ c.if-is_word-2.false) in
    let is : is_word c.args.first.now (codes "until") ≡ true = ap (is_word c.args.first.now) (sym c.as_slice-else-is_word-2.ensures) ∙ (sym c.is_word-else-is_word-2.ensures ∙ c.if-is_word-3.true) in
    rw (no1, no2, is) (any-mapped time Until (fits c.args.count) c.args.words.now c.lone_time.result c.map-then-is_word-3.result c.map-then-is_word-3.ensures.cases (λ t. refl) c.lone_time.ensures)
