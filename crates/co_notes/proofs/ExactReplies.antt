-- The replies of a callout are read exactly from the words that they are written by.
use Rattle.std.proofs.Common.{◌≡◌, ℕ, Bool, true, false, List, [], ◌∷◌, ◌++◌, refl, ap, subst, ◌∙◌, ℤ}
use Rattle.std.specs.Prelude.{Option, Some, None, Ok, IfSome, if◌then◌else◌, codes}
use Rattle.co_object.specs.declared.Next.{Next}
use Rattle.co_object.specs.declared.Reply.{Reply}
use Rattle.co_object.specs.declared.Reply.TheVariants as reply
use Rattle.co_program.specs.declared.Script.{Script}
use Rattle.co_program.specs.Existing.{CpuExists, NextExists}
use Rattle.co_program.specs.Names.{FuncExists}
use Rattle.co_text.specs.Fallible.{◌>>=◌}
use Rattle.co_text.specs.Values.{Word, is_word}
use Rattle.co_text.specs.Written.{units_word}
use Rattle.co_text.specs.Taking.{Read, next, after_next}
use Rattle.co_notes.proofs.PartSplits.{AreParts}
use Rattle.co_notes.specs.declared.reading.names.Names.{Names}
use Rattle.co_notes.specs.NoteTexts.{arming_word, cpu_word, truth_word, func_or_dash, off_words, next_words, reply_words}
use Rattle.co_notes.specs.NoteValues.{names_of, IsSmallScript, code}
use Rattle.co_notes.specs.NoteForms.{made, off_form, later_form, next_form, drain_named, next_named, woke_form, valued_replies, reply_forms, reply_form}
use Rattle.co_notes.specs.NoteFits.{IsTime, IsLong, IsCpu, ReplyFits}
use Rattle.co_notes.proofs.Exact.{Exact, lit, same_word, same_pair, one, two, behind, made-back, made-told, tells-made, tells-nothing, EachTells, choice-told}
use Rattle.co_notes.proofs.ExactValues.{times, armings, truths, codes-exact}
use Rattle.co_notes.proofs.ExactNames.{some_cpus, some_funcs, arming_exact, func_exact}

module _ (s : Script) (small : IsSmallScript s) where
  abbrev names : Names
  names = names_of s

  off_exact : Exact (CpuExists s) off_words (off_form names)
  off_exact = behind (codes "off") refl (lit (codes "off") refl) (one (some_cpus s small))

  abbrev laters : (ℕ × ℕ) × ℕ → Next
  laters x = record { n = x.0.0; cpu = x.0.1; due = x.1 }

  abbrev later_words : Next → List Word
  later_words x = arming_word x.n ∷ cpu_word x.cpu ∷ units_word x.due ∷ []

  -- a callout's next arming, and whether there is one
  abbrev NextFits : Next → Type 0
  NextFits x = (IsLong x.n × IsTime x.due) × IsCpu s x.cpu

  abbrev SomeFits : Option Next → Type 0
  SomeFits o = IfSome o (λ x. IsLong x.n × IsTime x.due) × NextExists s o

  later_exact : Exact NextFits later_words (later_form names)
  later_exact = record {
    back = λ x ws h. made-back laters (two (arming_exact s small) (one times)) ((x.n, x.cpu), x.due) ws ((h.0.0, h.1), h.0.1);
    told = λ ws x rest h. made-told laters (two (arming_exact s small) (one times)) (λ y rest. NextFits y × (ws ≡ later_words y ++ rest)) ws rest (λ a f e. (((f.0.0, f.1), f.0.1), e)) x h;
    ink = λ x h. (two (arming_exact s small) (one times)).ink ((x.n, x.cpu), x.due) ((h.0.0, h.1), h.0.1);
  }

  abbrev somes : Next → Option Next
  somes x = Some x

  abbrev option_by : Bool → List Word → Read Bool
  option_by b ws = if b then Ok (true, after_next ws) else Ok (false, ws)

  abbrev next_by : Bool → List Word → Read (Option Next)
  next_by b ws = option_by b ws >>= λ none. if none.0 then Ok (None, none.1) else made somes (later_form names) none.1

  next_exact : Exact SomeFits next_words (next_form names)
  next_exact = record { back = back; told = told; ink = ink } where
    back : (o : Option Next) (ws : List Word) → SomeFits o → next_form names (next_words o ++ ws) ≡ Ok (o, ws)
    back None ws h = refl
    back (Some x) ws h = made-back somes later_exact x ws h

    some-told : (ws : List Word) (o : Option Next) (rest : List Word) → made somes (later_form names) ws ≡ Ok (o, rest) → SomeFits o × (ws ≡ next_words o ++ rest)
    some-told ws o rest h = made-told somes later_exact (λ y rest. SomeFits y × (ws ≡ next_words y ++ rest)) ws rest (λ a f e. (f, e)) o h

    told : (ws : List Word) (o : Option Next) (rest : List Word) → next_form names ws ≡ Ok (o, rest) → SomeFits o × (ws ≡ next_words o ++ rest)
    told [] o rest h = some-told [] o rest h
    told (w ∷ ws) o rest h = go (is_word w (codes "-")) refl h where
      go : (b : Bool) → is_word w (codes "-") ≡ b → next_by b (w ∷ ws) ≡ Ok (o, rest) → SomeFits o × (w ∷ ws ≡ next_words o ++ rest)
      go true e k =
          let p = same_pair None o ws rest k in
          subst (λ (q : Option Next). SomeFits q × (w ∷ ws ≡ next_words q ++ rest)) p.0 ((tt, tt), ap (λ v. v ∷ ws) (same_word w (codes "-") e) ∙ ap (λ r. codes "-" ∷ r) p.1)
      go false e k = some-told (w ∷ ws) o rest k

    ink : (o : Option Next) → SomeFits o → AreParts (next_words o)
    ink None h = (lit (codes "-") refl, tt)
    ink (Some x) h = later_exact.ink x h

  drain_exact : Exact (FuncExists s) (λ o. codes "drain" ∷ func_or_dash o ∷ []) (drain_named names)
  drain_exact = behind (codes "drain") refl (lit (codes "drain") refl) (one (some_funcs s small))

  named_exact : Exact SomeFits (λ o. codes "next" ∷ next_words o) (next_named names)
  named_exact = behind (codes "next") refl (lit (codes "next") refl) next_exact

  woke_exact : Exact (λ b. Unit {0}) (λ b. codes "woke" ∷ truth_word b ∷ []) woke_form
  woke_exact = behind (codes "woke") refl (lit (codes "woke") refl) (one truths)

  abbrev armeds : ℤ × ((ℕ × ℕ) × Option ℕ) → Reply
  armeds x = reply.Armed x.0 x.1.0.0 x.1.0.1 x.1.1

  abbrev waits : (ℕ × Bool) × Option ℕ → Reply
  waits x = reply.Wait x.0.0 x.0.1 x.1

  abbrev endeds : Option ℕ × (Option Next × Bool) → Reply
  endeds x = reply.Ended x.0 x.1.0 x.1.1

  reply-tells : EachTells (ReplyFits s) reply_words (reply_forms names)
  unfolding reply_forms valued_replies
  reply-tells = (
    tells-nothing (ReplyFits s) reply_words (codes "nohandler") reply.NoHandler (tt, record { exists = tt; off = tt; func = tt }) (λ rest. refl),
    (
      tells-nothing (ReplyFits s) reply_words (codes "worn") reply.Worn (tt, record { exists = tt; off = tt; func = tt }) (λ rest. refl),
      (
        tells-nothing (ReplyFits s) reply_words (codes "busy") reply.Busy (tt, record { exists = tt; off = tt; func = tt }) (λ rest. refl),
        (
          tells-nothing (ReplyFits s) reply_words (codes "yes") reply.Yes (tt, record { exists = tt; off = tt; func = tt }) (λ rest. refl),
          (
            tells-nothing (ReplyFits s) reply_words (codes "no") reply.No (tt, record { exists = tt; off = tt; func = tt }) (λ rest. refl),
            (
              tells-nothing (ReplyFits s) reply_words (codes "done") reply.Done (tt, record { exists = tt; off = tt; func = tt }) (λ rest. refl),
              (
                tells-nothing (ReplyFits s) reply_words (codes "live") reply.Live (tt, record { exists = tt; off = tt; func = tt }) (λ rest. refl),
                (
                  tells-nothing (ReplyFits s) reply_words (codes "retired") reply.Retired (tt, record { exists = tt; off = tt; func = tt }) (λ rest. refl),
                  (
                    tells-nothing (ReplyFits s) reply_words (codes "hold") reply.Hold (tt, record { exists = tt; off = tt; func = tt }) (λ rest. refl),
                    (
                      tells-nothing (ReplyFits s) reply_words (codes "skip") reply.Skip (tt, record { exists = tt; off = tt; func = tt }) (λ rest. refl),
                      (
                        tells-made (ReplyFits s) reply_words (codes "armed") armeds (two (one codes-exact) (two (arming_exact s small) off_exact)) (λ a h. ((h.0, h.1.0.0), record { exists = h.1.0.1; off = h.1.1; func = tt })) (λ a rest. refl),
                        (
                          tells-made (ReplyFits s) reply_words (codes "notarmed") (λ c. reply.NotArmed c) (one codes-exact) (λ a h. (h, record { exists = tt; off = tt; func = tt })) (λ a rest. refl),
                          (
                            tells-made (ReplyFits s) reply_words (codes "stopped") (λ x. reply.Stopped x.0 x.1) (two (one codes-exact) off_exact) (λ a h. (h.0, record { exists = tt; off = h.1; func = tt })) (λ a rest. refl),
                            (
                              tells-made (ReplyFits s) reply_words (codes "wait") waits (two (two (one armings) (one truths)) off_exact) (λ a h. (h.0.0, record { exists = tt; off = h.1; func = tt })) (λ a rest. refl),
                              (
                                tells-made (ReplyFits s) reply_words (codes "drained") (λ x. reply.Drained x.0 x.1) (two (one codes-exact) off_exact) (λ a h. (h.0, record { exists = tt; off = h.1; func = tt })) (λ a rest. refl),
                                (
                                  tells-made (ReplyFits s) reply_words (codes "inuse") (λ x. reply.InUse x.0 x.1) (two (one truths) (one truths)) (λ a h. (tt, record { exists = tt; off = tt; func = tt })) (λ a rest. refl),
                                  (
                                    tells-made (ReplyFits s) reply_words (codes "go") (λ x. reply.Go x.0 x.1) (func_exact s small) (λ a h. (h.1, record { exists = tt; off = tt; func = h.0 })) (λ a rest. refl),
                                    (
                                      tells-made (ReplyFits s) reply_words (codes "ended") endeds (two drain_exact (two named_exact woke_exact)) (λ a h. (h.1.0.0, record { exists = h.1.0.1; off = tt; func = h.0 })) (λ a rest. refl),
                                      tt,
                                    ),
                                  ),
                                ),
                              ),
                            ),
                          ),
                        ),
                      ),
                    ),
                  ),
                ),
              ),
            ),
          ),
        ),
      ),
    ),
  )

  reply-back : (r : Reply) (ws : List Word) → ReplyFits s r → reply_form names (reply_words r ++ ws) ≡ Ok (r, ws)
  unfolding reply_forms valued_replies
  reply-back (reply.Armed code n cpu off) ws h = made-back armeds (two (one codes-exact) (two (arming_exact s small) off_exact)) (code, ((n, cpu), off)) ws (h.0.0, ((h.0.1, h.1.exists), h.1.off))
  reply-back (reply.NotArmed code) ws h = made-back (λ c. reply.NotArmed c) (one codes-exact) code ws h.0
  reply-back reply.NoHandler ws h = refl
  reply-back reply.Worn ws h = refl
  reply-back (reply.Stopped code off) ws h = made-back (λ x. reply.Stopped x.0 x.1) (two (one codes-exact) off_exact) (code, off) ws (h.0, h.1.off)
  reply-back (reply.Wait n took off) ws h = made-back waits (two (two (one armings) (one truths)) off_exact) ((n, took), off) ws ((h.0, tt), h.1.off)
  reply-back (reply.Drained code off) ws h = made-back (λ x. reply.Drained x.0 x.1) (two (one codes-exact) off_exact) (code, off) ws (h.0, h.1.off)
  reply-back reply.Busy ws h = refl
  reply-back reply.Yes ws h = refl
  reply-back reply.No ws h = refl
  reply-back reply.Done ws h = refl
  reply-back reply.Live ws h = refl
  reply-back reply.Retired ws h = refl
  reply-back (reply.InUse armed serviced) ws h = made-back (λ x. reply.InUse x.0 x.1) (two (one truths) (one truths)) (armed, serviced) ws (tt, tt)
  reply-back (reply.Go func arg) ws h = made-back (λ x. reply.Go x.0 x.1) (func_exact s small) (func, arg) ws (h.1.func, h.0)
  reply-back reply.Hold ws h = refl
  reply-back reply.Skip ws h = refl
  reply-back (reply.Ended drain next woke) ws h = made-back endeds (two drain_exact (two named_exact woke_exact)) (drain, (next, woke)) ws (h.1.func, ((h.0, h.1.exists), tt))

  reply-ink : (r : Reply) → ReplyFits s r → AreParts (reply_words r)
  reply-ink (reply.Armed code n cpu off) h = (lit (codes "armed") refl, (two (one codes-exact) (two (arming_exact s small) off_exact)).ink (code, ((n, cpu), off)) (h.0.0, ((h.0.1, h.1.exists), h.1.off)))
  reply-ink (reply.NotArmed code) h = (lit (codes "notarmed") refl, (codes-exact.ink code h.0, tt))
  reply-ink reply.NoHandler h = (lit (codes "nohandler") refl, tt)
  reply-ink reply.Worn h = (lit (codes "worn") refl, tt)
  reply-ink (reply.Stopped code off) h = (lit (codes "stopped") refl, (two (one codes-exact) off_exact).ink (code, off) (h.0, h.1.off))
  reply-ink (reply.Wait n took off) h = (lit (codes "wait") refl, (two (two (one armings) (one truths)) off_exact).ink ((n, took), off) ((h.0, tt), h.1.off))
  reply-ink (reply.Drained code off) h = (lit (codes "drained") refl, (two (one codes-exact) off_exact).ink (code, off) (h.0, h.1.off))
  reply-ink reply.Busy h = (lit (codes "busy") refl, tt)
  reply-ink reply.Yes h = (lit (codes "yes") refl, tt)
  reply-ink reply.No h = (lit (codes "no") refl, tt)
  reply-ink reply.Done h = (lit (codes "done") refl, tt)
  reply-ink reply.Live h = (lit (codes "live") refl, tt)
  reply-ink reply.Retired h = (lit (codes "retired") refl, tt)
  reply-ink (reply.InUse armed serviced) h = (lit (codes "inuse") refl, (two (one truths) (one truths)).ink (armed, serviced) (tt, tt))
  reply-ink (reply.Go func arg) h = (lit (codes "go") refl, (func_exact s small).ink (func, arg) (h.1.func, h.0))
  reply-ink reply.Hold h = (lit (codes "hold") refl, tt)
  reply-ink reply.Skip h = (lit (codes "skip") refl, tt)
  reply-ink (reply.Ended drain next woke) h = (lit (codes "ended") refl, (two drain_exact (two named_exact woke_exact)).ink (drain, (next, woke)) (h.1.func, ((h.0, h.1.exists), tt)))

  pub reply_exact : Exact (ReplyFits s) reply_words (reply_form names)
  reply_exact = record { back = reply-back; told = choice-told (ReplyFits s) reply_words (reply_forms names) reply-tells; ink = reply-ink }
