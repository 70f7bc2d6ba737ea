-- Acts at the end of a line: the words that stand there say them.
use Rattle.std.proofs.Common.{◌≡◌, inl, inr, ℕ, Bool, true, List, [], ◌∷◌, refl, ap, sym, ◌∙◌}
use Rattle.std.specs.Prelude.{◌⊎◌, Ok}
use Rattle.co_text.specs.Values.{Word, number, time, func, argument}
use Rattle.co_program.specs.declared.Act.{Act}
use Rattle.co_program.specs.declared.Act.TheVariants as act
use Rattle.co_program.specs.declared.Who.TheVariants as callout
use Rattle.co_program.specs.declared.When.{When}
use Rattle.co_program.specs.declared.Where.{Where}
use Rattle.co_text.proofs.LinesBack.{and_both}
use Rattle.co_grammar.specs.Ahead.{is_of_who, is_inked, IsNext, EndsAct, EndsCpu}
use Rattle.co_grammar.specs.Operands.{who, moment}
use Rattle.co_grammar.specs.LoneActs.{timed_act, numbered_act, who_act}
use Rattle.co_grammar.specs.Forms.{act_form}
use Rattle.co_grammar.specs.declared.keyword.Verb.{Verb}
use Rattle.co_grammar.specs.declared.keyword.Verb.TheVariants as verb
use Rattle.co_grammar.proofs.AheadWords.{one-more}
use Rattle.co_grammar.proofs.AheadOperands.{who-serviced}

-- one operand

timed-reads : (serviced : Bool) (v : Verb) (w : Word) (t : ℕ) → (v ≡ verb.Now) ⊎ (v ≡ verb.Tick) → time w ≡ Ok t → act_form serviced v (w ∷ []) ≡ Ok (timed_act v t)
timed-reads serviced v w t (inl is) e = rw (is, e) refl
timed-reads serviced v w t (inr is) e = rw (is, e) refl

pub timed-ends : (v : Verb) (rest r after : List ℕ) (u t : ℕ) (a : Act) → (v ≡ verb.Now) ⊎ (v ≡ verb.Tick) → IsNext time rest u r → r ≡ 10 ∷ after → t ≡ u → a ≡ timed_act v t → EndsAct v rest a after
timed-ends v rest r after u t a is h ends same made = record {
  others = h.2.word ∷ [];
  front = one-more rest h.0 r after h.2.word [] h.1 h.2.front ends;
  inked = and_both (is_inked h.2.word) _ h.2.inked refl;
  reads = λ serviced. timed-reads serviced v h.2.word t is (h.2.reads ∙ ap (λ k. Ok k) (sym same)) ∙ ap (λ b. Ok b) (sym made);
}

numbered-reads : (serviced : Bool) (v : Verb) (w : Word) (n : ℕ) → (v ≡ verb.Lock) ⊎ ((v ≡ verb.ReadLock) ⊎ (v ≡ verb.Drain)) → number w ≡ Ok n → act_form serviced v (w ∷ []) ≡ Ok (numbered_act v n)
numbered-reads serviced v w n (inl is) e = rw (is, e) refl
numbered-reads serviced v w n (inr (inl is)) e = rw (is, e) refl
numbered-reads serviced v w n (inr (inr is)) e = rw (is, e) refl

pub numbered-ends : (v : Verb) (rest r after : List ℕ) (n : ℕ) (a : Act) → (v ≡ verb.Lock) ⊎ ((v ≡ verb.ReadLock) ⊎ (v ≡ verb.Drain)) → IsNext number rest n r → r ≡ 10 ∷ after → a ≡ numbered_act v n → EndsAct v rest a after
numbered-ends v rest r after n a is h ends made = record {
  others = h.2.word ∷ [];
  front = one-more rest h.0 r after h.2.word [] h.1 h.2.front ends;
  inked = and_both (is_inked h.2.word) _ h.2.inked refl;
  reads = λ serviced. numbered-reads serviced v h.2.word n is h.2.reads ∙ ap (λ b. Ok b) (sym made);
}

who-reads : (serviced : Bool) (v : Verb) (w : Word) (n : ℕ) → is_of_who v ≡ true → who serviced w ≡ Ok (callout.Timer n) → act_form serviced v (w ∷ []) ≡ Ok (who_act v (callout.Timer n))
who-reads serviced verb.Stop w n is e = rw e refl
who-reads serviced verb.Active w n is e = rw e refl
who-reads serviced verb.Pending w n is e = rw e refl
who-reads serviced verb.Deactivate w n is e = rw e refl
who-reads serviced verb.Init w n is e = rw e refl
who-reads serviced verb.Retire w n is e = rw e refl
who-reads serviced verb.Now w n is e = cc
who-reads serviced verb.Lock w n is e = cc
who-reads serviced verb.ReadLock w n is e = cc
who-reads serviced verb.Unlock w n is e = cc
who-reads serviced verb.Reset w n is e = cc
who-reads serviced verb.Ticks w n is e = cc
who-reads serviced verb.Schedule w n is e = cc
who-reads serviced verb.Drain w n is e = cc
who-reads serviced verb.AsyncDrain w n is e = cc
who-reads serviced verb.Tick w n is e = cc

pub who-ends : (v : Verb) (rest r after : List ℕ) (n : ℕ) (a : Act) → is_of_who v ≡ true → IsNext number rest n r → r ≡ 10 ∷ after → a ≡ who_act v (callout.Timer n) → EndsAct v rest a after
who-ends v rest r after n a is h ends made = record {
  others = h.2.word ∷ [];
  front = one-more rest h.0 r after h.2.word [] h.1 h.2.front ends;
  inked = and_both (is_inked h.2.word) _ h.2.inked refl;
  reads = λ serviced. who-reads serviced v h.2.word n is (who-serviced serviced h.2.word n h.2.reads) ∙ ap (λ b. Ok b) (sym made);
}

-- more operands

pub drain-ends : (rest r q after : List ℕ) (n f : ℕ) → IsNext number rest n r → IsNext func r f q → q ≡ 10 ∷ after → EndsAct verb.AsyncDrain rest (act.AsyncDrain (callout.Timer n) f) after
drain-ends rest r q after n f h k ends = record {
  others = h.2.word ∷ k.2.word ∷ [];
  front = one-more rest h.0 r after h.2.word (k.2.word ∷ []) h.1 h.2.front (one-more r k.0 q after k.2.word [] k.1 k.2.front ends);
  inked = and_both (is_inked h.2.word) _ h.2.inked (and_both (is_inked k.2.word) _ k.2.inked refl);
  reads = λ serviced. rw (who-serviced serviced h.2.word n h.2.reads, k.2.reads) refl;
}

pub schedule-ends : (rest r q after : List ℕ) (n p : ℕ) (w : When) (c : Where) → IsNext number rest n r → IsNext moment r w q → EndsCpu q c after → p ≡ 0 → EndsAct verb.Schedule rest (act.Schedule (callout.Timer n) w c p) after
schedule-ends rest r q after n p w c h k e none = record {
  others = h.2.word ∷ k.2.word ∷ e.others;
  front = one-more rest h.0 r after h.2.word (k.2.word ∷ e.others) h.1 h.2.front (one-more r k.0 q after k.2.word e.others k.1 k.2.front e.front);
  inked = and_both (is_inked h.2.word) _ h.2.inked (and_both (is_inked k.2.word) _ k.2.inked e.inked);
  reads = λ serviced. rw (who-serviced serviced h.2.word n h.2.reads, k.2.reads, e.reads serviced, none) refl;
}

pub reset-ends : (rest r q s o after : List ℕ) (n f a p : ℕ) (w : When) (c : Where) → IsNext number rest n r → IsNext moment r w q → IsNext func q f s → IsNext argument s a o → EndsCpu o c after → p ≡ 0
    → EndsAct verb.Reset rest (act.Reset (callout.Timer n) f w a c p) after
reset-ends rest r q s o after n f a p w c h k l m e none = record {
  others = h.2.word ∷ k.2.word ∷ l.2.word ∷ m.2.word ∷ e.others;
  front = one-more rest h.0 r after h.2.word (k.2.word ∷ l.2.word ∷ m.2.word ∷ e.others) h.1 h.2.front
      (one-more r k.0 q after k.2.word (l.2.word ∷ m.2.word ∷ e.others) k.1 k.2.front
      (one-more q l.0 s after l.2.word (m.2.word ∷ e.others) l.1 l.2.front
      (one-more s m.0 o after m.2.word e.others m.1 m.2.front e.front)));
  inked = and_both (is_inked h.2.word) _ h.2.inked (and_both (is_inked k.2.word) _ k.2.inked (and_both (is_inked l.2.word) _ l.2.inked (and_both (is_inked m.2.word) _ m.2.inked e.inked)));
  reads = λ serviced. rw (who-serviced serviced h.2.word n h.2.reads, k.2.reads, l.2.reads, m.2.reads, e.reads serviced, none) refl;
}
