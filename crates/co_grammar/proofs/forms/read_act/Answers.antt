-- Verbs that share a form: each is one of those.
use Rattle.std.proofs.Common.{◌≡◌, inl, inr, Bool, List, refl, subst}
use Rattle.std.specs.Prelude.{◌⊎◌}
use Rattle.co_text.specs.Fallible.{Gives}
use Rattle.co_text.specs.Values.{Word}
use Rattle.co_grammar.specs.Checks.{typed}
use Rattle.co_grammar.specs.Forms.{act_form}
use Rattle.co_grammar.specs.LoneActs.{timed_form, numbered_form, who_form}
use Rattle.co_grammar.specs.declared.keyword.Verb.{Verb}
use Rattle.co_grammar.specs.declared.keyword.Verb.TheVariants as verb
use Rattle.co_grammar.proofs.forms.read_act.Goals as goal

of_time : (serviced : Bool) (v : Verb) (ws : List Word) → (v ≡ verb.Now) ⊎ (v ≡ verb.Tick) → timed_form v ws ≡ act_form serviced v ws
of_time serviced v ws (inl is) = rw is refl
of_time serviced v ws (inr is) = rw is refl

of_number : (serviced : Bool) (v : Verb) (ws : List Word) → (v ≡ verb.Lock) ⊎ ((v ≡ verb.ReadLock) ⊎ (v ≡ verb.Drain)) → numbered_form v ws ≡ act_form serviced v ws
of_number serviced v ws (inl is) = rw is refl
of_number serviced v ws (inr (inl is)) = rw is refl
of_number serviced v ws (inr (inr is)) = rw is refl

of_query : (serviced : Bool) (v : Verb) (ws : List Word) → (v ≡ verb.Stop) ⊎ ((v ≡ verb.Active) ⊎ (v ≡ verb.Pending)) → who_form serviced v ws ≡ act_form serviced v ws
of_query serviced v ws (inl is) = rw is refl
of_query serviced v ws (inr (inl is)) = rw is refl
of_query serviced v ws (inr (inr is)) = rw is refl

of_change : (serviced : Bool) (v : Verb) (ws : List Word) → (v ≡ verb.Deactivate) ⊎ ((v ≡ verb.Init) ⊎ (v ≡ verb.Retire)) → who_form serviced v ws ≡ act_form serviced v ws
of_change serviced v ws (inl is) = rw is refl
of_change serviced v ws (inr (inl is)) = rw is refl
of_change serviced v ws (inr (inr is)) = rw is refl

pub returns-in-Now : goal.returns-in-Now
returns-in-Now c = subst (λ r. Gives (λ _. c.timed.new.into) c.timed.result (typed r)) (of_time c.args.serviced c.args.verb c.args.words.now c.in-Now.is) c.timed.ensures

pub returns-in-Lock : goal.returns-in-Lock
returns-in-Lock c = subst (λ r. Gives (λ _. c.numbered.new.into) c.numbered.result (typed r)) (of_number c.args.serviced c.args.verb c.args.words.now c.in-Lock.is) c.numbered.ensures

pub returns-in-Stop : goal.returns-in-Stop
returns-in-Stop c = subst (λ r. Gives (λ _. c.of_who.new.into) c.of_who.result (typed r)) (of_query c.args.serviced c.args.verb c.args.words.now c.in-Stop.is) c.of_who.ensures

pub returns-in-Deactivate : goal.returns-in-Deactivate
returns-in-Deactivate c = subst (λ r. Gives (λ _. c.of_who-in-Deactivate.new.into) c.of_who-in-Deactivate.result (typed r)) (of_change c.args.serviced c.args.verb c.args.words.now c.in-Deactivate.is) c.of_who-in-Deactivate.ensures
