-- Actors and who made a note are read exactly from their words.
use Rattle.std.proofs.Common.{◌≡◌, ℕ, zero, suc, ◌+◌, ◌-◌, ◌*◌, ◌^◌, ◌<◌, ◌≤◌, Bool, true, false, cond, not, ◌&&◌, [], ◌∷◌, ◌++◌, length, take, drop, refl, ap, sym, subst, ◌∙◌, arith, decimal, inl, inr, length-append}
use Rattle.std.specs.Prelude.{Result, Ok, Err, nat_lt, ◌==◌, if◌then◌else◌, ◌⊎◌}
use Rattle.std.specs.List.{list_all, position_or_len, before_first}
use Rattle.std.specs.Char.{digit_value}
use Rattle.std.specs.Str.Parse.{AllDigits}
use Rattle.std.proofs.lemmas.Fmt.{decimal_is_IsNumeral}
use Rattle.std.proofs.lemmas.Bool.{and_parts, lt-ltb, le-ltb, eqb-true, eq-eqb, cases_lt, and_from}
use Rattle.std.proofs.lemmas.Bool.Decides.{nat_tests}
use Rattle.co_text.specs.Fallible.{◌>>=◌, unless}
use Rattle.co_text.specs.Values.{Word}
use Rattle.co_text.specs.declared.cause.Cause.{Cause}
use Rattle.co_text.specs.declared.cause.Cause.TheVariants.{Form}
use Rattle.co_notes.proofs.PartSplits.{IsPart, is_mark}
use Rattle.co_program.specs.declared.Script.{Script}
use Rattle.co_program.specs.declared.Role.TheVariants.{Client, Cpu, Interrupt}
use Rattle.co_program.specs.Actors.{actor_count, role_of}
use Rattle.co_grammar.specs.Spelling.{role_word, actor_word}
use Rattle.co_script.proofs.told.Steps.{bind-ok, unless-ok, cond-ok}
use Rattle.co_notes.specs.declared.reading.names.Names.{Names}
use Rattle.co_notes.specs.declared.reading.values.Maker.{Maker}
use Rattle.co_notes.specs.NoteValues.{names_of, IsSmallScript, below, lettered, actor_in, is_slash, maker, maker_is}
use Rattle.co_notes.specs.NoteFits.{IsActor, IsLong, MakerFits}
use Rattle.co_notes.proofs.Exact.{IsSpelling}
use Rattle.co_notes.proofs.ExactValues.{numbers, letters, lettered-part}

-- ---- the slash

abbrev pub no_slash : Word → Bool
no_slash w = list_all (λ c. not (is_slash c)) w

digit-plain : (c : ℕ) → digit_value c < 10 → not (is_slash c) ≡ true
digit-plain c d = grind (arith, nat_tests)

digits-plain : (ds : Word) → AllDigits 10 ds → no_slash ds ≡ true
digits-plain [] all = refl
digits-plain (d ∷ ds) all = and_from (not (is_slash d)) (no_slash ds) (digit-plain d all.0) (digits-plain ds all.1)

pub lettered-plain : (c n : ℕ) → not (is_slash c) ≡ true → n < 2 ^ 64 → no_slash (c ∷ decimal n) ≡ true
lettered-plain c n e h = and_from (not (is_slash c)) (no_slash (decimal n)) e (digits-plain (decimal n) (decimal_is_IsNumeral n h).0.1)

slash-place : (w v : Word) → no_slash w ≡ true → position_or_len is_slash (w ++ 47 ∷ v) ≡ length w
slash-place [] v e = refl
slash-place (c ∷ w) v e =
    let both = and_parts (not (is_slash c)) (no_slash w) e in
    let more : 1 + position_or_len is_slash (w ++ 47 ∷ v) ≡ length (c ∷ w) = omega (arith, slash-place w v both.1) in
    ap (λ b. cond b (1 + position_or_len is_slash (w ++ 47 ∷ v)) 0) both.0 ∙ more

take-front : (w v : Word) → take (length w) (w ++ v) ≡ w
take-front [] v = refl
take-front (c ∷ w) v = ap (λ l. c ∷ l) (take-front w v)

drop-front : (w v : Word) → drop (length w) (w ++ v) ≡ v
drop-front [] v = refl
drop-front (c ∷ w) v = drop-front w v

-- an actor and an act, read apart
abbrev pub maker_parts : Names → Word → Word → Result Maker Cause
maker_parts n name rest = actor_in n name >>= λ a. lettered 47 (2 ^ 64) rest >>= λ m. Ok (record { actor = a; act = m })

pub maker-parts : (n : Names) (name v : Word) → no_slash name ≡ true → maker n (name ++ 47 ∷ v) ≡ maker_parts n name (47 ∷ v)
maker-parts n name v plain =
    let w : Word = name ++ 47 ∷ v in
    let front : before_first is_slash w ≡ name = ap (λ k. take k w) (slash-place name v plain) ∙ take-front name (47 ∷ v) in
    let back : drop (length (before_first is_slash w)) w ≡ 47 ∷ v = ap (λ (x : Word). drop (length x) w) front ∙ drop-front name (47 ∷ v) in
    ap (λ x. maker_parts n x (drop (length (before_first is_slash w)) w)) front ∙ ap (maker_parts n name) back

rejoin : (k : ℕ) (w : Word) → take k w ++ drop (length (take k w)) w ≡ w
rejoin zero w = refl
rejoin (suc k) [] = refl
rejoin (suc k) (c ∷ w) = ap (λ l. c ∷ l) (rejoin k w)

mark-append : (v w : Word) → list_all is_mark v ≡ true → list_all is_mark w ≡ true → list_all is_mark (v ++ w) ≡ true
mark-append [] w e f = f
mark-append (c ∷ v) w e f =
    let both = and_parts (is_mark c) (list_all is_mark v) e in
    and_from (is_mark c) (list_all is_mark (v ++ w)) both.0 (mark-append v w both.1 f)

both_words : (v w : Word) → IsPart v → IsPart w → IsPart (v ++ w)
both_words v w a b = record { some = omega (arith, length-append v w, a.some); marks = mark-append v w a.marks b.marks }

module _ (s : Script) (small : IsSmallScript s) where
  abbrev clients : ℕ
  clients = length s.clients

  few_clients : clients ≤ 2 ^ 64
  few_clients = omega (arith, small.clients)

  few_cpus : s.cpus ≤ 2 ^ 64
  few_cpus = omega (arith, small.cpus)

  -- the role of an actor, by where its number lies
  client-role : (a : ℕ) → a < clients → role_of s a ≡ Client a
  client-role a h = ap (λ b. if b then Client a else if nat_lt a (clients + s.cpus) then Cpu (a - clients) else Interrupt (a - clients - s.cpus)) (lt-ltb a clients h)

  cpu-role : (x : ℕ) → x < s.cpus → role_of s (clients + x) ≡ Cpu x
  cpu-role x h =
      let a : ℕ = clients + x in
      ap (λ b. if b then Client a else if nat_lt a (clients + s.cpus) then Cpu (a - clients) else Interrupt (a - clients - s.cpus)) (le-ltb a clients (omega arith))
      ∙ (ap (λ b. if b then Cpu (a - clients) else Interrupt (a - clients - s.cpus)) (lt-ltb a (clients + s.cpus) (omega arith))
      ∙ ap Cpu (omega arith))

  interrupt-role : (x : ℕ) → role_of s (clients + s.cpus + x) ≡ Interrupt x
  interrupt-role x =
      let a : ℕ = clients + s.cpus + x in
      ap (λ b. if b then Client a else if nat_lt a (clients + s.cpus) then Cpu (a - clients) else Interrupt (a - clients - s.cpus)) (le-ltb a clients (omega arith))
      ∙ (ap (λ b. if b then Cpu (a - clients) else Interrupt (a - clients - s.cpus)) (le-ltb a (clients + s.cpus) (omega arith))
      ∙ ap Interrupt (omega arith))

  -- how many actors there are
  at-least : clients + s.cpus ≤ actor_count s
  at-least = go (s.version == 2) where
    go : (b : Bool) → clients + s.cpus ≤ (if b then clients + 2 * s.cpus else clients + s.cpus)
    go true = omega arith
    go false = omega arith

  in-version-2 : s.version ≡ 2 → actor_count s ≡ clients + 2 * s.cpus
  in-version-2 v = ap (λ b. if b then clients + 2 * s.cpus else clients + s.cpus) (eq-eqb s.version 2 v)

  in-version-1 : s.version ≡ 1 → actor_count s ≡ clients + s.cpus
  in-version-1 v = ap (λ n. if n == 2 then clients + 2 * s.cpus else clients + s.cpus) v

  -- an actor is a client, a CPU or in version 2 an interrupt
  by-role : (P : ℕ → Type 0) → ((x : ℕ) → x < clients → P x) → ((x : ℕ) → x < s.cpus → P (clients + x)) → ((x : ℕ) → x < s.cpus → s.version ≡ 2 → P (clients + s.cpus + x)) → (a : ℕ) → IsActor s a → P a
  by-role P f g h a is = first (cases_lt a clients) where
    third : clients + s.cpus ≤ a → (s.version ≡ 1) ⊎ (s.version ≡ 2) → P a
    third ge (inl v) = absurd (omega (arith, is, in-version-1 v))
    third ge (inr v) =
        let x : ℕ = a - (clients + s.cpus) in
        let e : clients + s.cpus + x ≡ a = omega arith in
        let less : x < s.cpus = omega (arith, is, in-version-2 v) in
        subst P e (h x less v)

    second : clients ≤ a → (a < clients + s.cpus) ⊎ (clients + s.cpus ≤ a) → P a
    second ge (inl lt) =
        let x : ℕ = a - clients in
        let e : clients + x ≡ a = omega arith in
        let less : x < s.cpus = omega arith in
        subst P e (g x less)
    second ge (inr more) = third more small.version

    first : (a < clients) ⊎ (clients ≤ a) → P a
    first (inl lt) = f a lt
    first (inr ge) = second ge (cases_lt a (clients + s.cpus))

  actor-back : (a : ℕ) → IsActor s a → actor_in (names_of s) (actor_word s a) ≡ Ok a
  actor-back = by-role (λ a. actor_in (names_of s) (actor_word s a) ≡ Ok a)
      (λ x h. ap (λ r. actor_in (names_of s) (role_word r)) (client-role x h) ∙ (numbers clients few_clients).back x h)
      (λ x h. ap (λ r. actor_in (names_of s) (role_word r)) (cpu-role x h) ∙ ap (λ r. r >>= λ y. Ok (clients + y)) ((numbers s.cpus few_cpus).back x h))
      (λ x h v. ap (λ r. actor_in (names_of s) (role_word r)) (interrupt-role x)
      ∙ (ap (λ b. if b then (below s.cpus (decimal x) >>= λ y. Ok (clients + s.cpus + y)) else Err Form) (eq-eqb s.version 2 v)
      ∙ ap (λ r. r >>= λ y. Ok (clients + s.cpus + y)) ((numbers s.cpus few_cpus).back x h)))

  abbrev Told : Word → ℕ → Type 0
  Told w a = IsActor s a × (w ≡ actor_word s a)

  client-told : (c : ℕ) (w : Word) (a : ℕ) → c ≡ 99 → below clients w ≡ Ok a → Told (c ∷ w) a
  client-told c w a e h =
      let t = (numbers clients few_clients).told w a h in
      (omega (arith, t.0, at-least), ap (λ d. d ∷ w) e ∙ (ap (λ x. 99 ∷ x) t.1 ∙ sym (ap role_word (client-role a t.0))))

  cpu-told : (c : ℕ) (w : Word) (a : ℕ) → c ≡ 112 → (below s.cpus w >>= λ x. Ok (clients + x)) ≡ Ok a → Told (c ∷ w) a
  cpu-told c w a e h =
      let b = bind-ok (below s.cpus w) (λ x. Ok (clients + x)) a h in
      let t = (numbers s.cpus few_cpus).told w b.0 b.1 in
      let same : clients + b.0 ≡ a = cc in
      let is : IsActor s (clients + b.0) = omega (arith, t.0, at-least) in
      subst (Told (c ∷ w)) same (is, ap (λ d. d ∷ w) e ∙ (ap (λ x. 112 ∷ x) t.1 ∙ sym (ap role_word (cpu-role b.0 t.0))))

  interrupt-told : (c : ℕ) (w : Word) (a : ℕ) → c ≡ 104 → s.version ≡ 2 → (below s.cpus w >>= λ x. Ok (clients + s.cpus + x)) ≡ Ok a → Told (c ∷ w) a
  interrupt-told c w a e v h =
      let b = bind-ok (below s.cpus w) (λ x. Ok (clients + s.cpus + x)) a h in
      let t = (numbers s.cpus few_cpus).told w b.0 b.1 in
      let same : clients + s.cpus + b.0 ≡ a = cc in
      let is : IsActor s (clients + s.cpus + b.0) = omega (arith, t.0, in-version-2 v) in
      subst (Told (c ∷ w)) same (is, ap (λ d. d ∷ w) e ∙ (ap (λ x. 104 ∷ x) t.1 ∙ sym (ap role_word (interrupt-role b.0))))

  actor-told : (w : Word) (a : ℕ) → actor_in (names_of s) w ≡ Ok a → Told w a
  actor-told [] a h = cc
  actor-told (c ∷ w) a h =
      cond-ok (Told (c ∷ w) a) (c == 99) (below clients w)
      (if c == 112 then (below s.cpus w >>= λ x. Ok (clients + x)) else (if (c == 104) && (s.version == 2) then (below s.cpus w >>= λ x. Ok (clients + s.cpus + x)) else Err Form)) a
      (λ e k. client-told c w a (eqb-true c 99 e) k)
      (λ k. cond-ok (Told (c ∷ w) a) (c == 112) (below s.cpus w >>= λ x. Ok (clients + x)) (if (c == 104) && (s.version == 2) then (below s.cpus w >>= λ x. Ok (clients + s.cpus + x)) else Err Form) a
      (λ e l. cpu-told c w a (eqb-true c 112 e) l)
      (λ l. cond-ok (Told (c ∷ w) a) ((c == 104) && (s.version == 2)) (below s.cpus w >>= λ x. Ok (clients + s.cpus + x)) (Err Form) a
      (λ e m. let both = and_parts (c == 104) (s.version == 2) e in interrupt-told c w a (eqb-true c 104 both.0) (eqb-true s.version 2 both.1) m)
      (λ m. cc)
      l)
      k)
      h

  pub actor-ink : (a : ℕ) → IsActor s a → IsPart (actor_word s a)
  actor-ink = by-role (λ a. IsPart (actor_word s a))
      (λ x h. subst IsPart (sym (ap role_word (client-role x h))) (lettered-part 99 x refl (omega (arith, h, few_clients))))
      (λ x h. subst IsPart (sym (ap role_word (cpu-role x h))) (lettered-part 112 x refl (omega (arith, h, few_cpus))))
      (λ x h v. subst IsPart (sym (ap role_word (interrupt-role x))) (lettered-part 104 x refl (omega (arith, h, few_cpus))))

  actor-plain : (a : ℕ) → IsActor s a → no_slash (actor_word s a) ≡ true
  actor-plain = by-role (λ a. no_slash (actor_word s a) ≡ true)
      (λ x h. ap (λ r. no_slash (role_word r)) (client-role x h) ∙ lettered-plain 99 x refl (omega (arith, h, few_clients)))
      (λ x h. ap (λ r. no_slash (role_word r)) (cpu-role x h) ∙ lettered-plain 112 x refl (omega (arith, h, few_cpus)))
      (λ x h v. ap (λ r. no_slash (role_word r)) (interrupt-role x) ∙ lettered-plain 104 x refl (omega (arith, h, few_cpus)))

  -- ---- who made a note

  abbrev pub maker_word : Maker → Word
  maker_word m = actor_word s m.actor ++ 47 ∷ decimal m.act

  acts-exact : IsSpelling IsLong (λ n. 47 ∷ decimal n) (lettered 47 (2 ^ 64))
  acts-exact = letters 47 (2 ^ 64) refl (omega arith)

  maker-back : (m : Maker) → MakerFits s m.actor m.act → maker (names_of s) (maker_word m) ≡ Ok m
  maker-back m h =
      maker-parts (names_of s) (actor_word s m.actor) (decimal m.act) (actor-plain m.actor h.0)
      ∙ (ap (λ r. r >>= λ a. lettered 47 (2 ^ 64) (47 ∷ decimal m.act) >>= λ x. Ok (record { actor = a; act = x })) (actor-back m.actor h.0)
      ∙ ap (λ r. r >>= λ x. Ok (record { actor = m.actor; act = x })) (acts-exact.back m.act h.1))

  maker-told : (w : Word) (m : Maker) → maker (names_of s) w ≡ Ok m → MakerFits s m.actor m.act × (w ≡ maker_word m)
  maker-told w m h =
      let name : Word = before_first is_slash w in
      let rest : Word = drop (length (before_first is_slash w)) w in
      let a = bind-ok (actor_in (names_of s) (before_first is_slash w)) (λ a. lettered 47 (2 ^ 64) (drop (length (before_first is_slash w)) w) >>= λ x. Ok (record { actor = a; act = x })) m h in
      let x = bind-ok (lettered 47 (2 ^ 64) (drop (length (before_first is_slash w)) w)) (λ x. Ok (record { actor = a.0; act = x })) m a.2 in
      let s1 = actor-told (before_first is_slash w) a.0 a.1 in
      let s2 = acts-exact.told (drop (length (before_first is_slash w)) w) x.0 x.1 in
      let same : record { actor = a.0; act = x.0 } ≡ m = cc in
      let whole : w ≡ actor_word s a.0 ++ 47 ∷ decimal x.0 =
      sym (rejoin (position_or_len is_slash w) w) ∙ (ap (λ n. n ++ drop (length (before_first is_slash w)) w) s1.1 ∙ ap (λ r. actor_word s a.0 ++ r) s2.1) in
      subst (λ (y : Maker). MakerFits s y.actor y.act × (w ≡ maker_word y)) same ((s1.0, s2.0), whole)

  maker-ink : (m : Maker) → MakerFits s m.actor m.act → IsPart (maker_word m)
  maker-ink m h = both_words (actor_word s m.actor) (47 ∷ decimal m.act) (actor-ink m.actor h.0) (acts-exact.ink m.act h.1)

  pub makers : IsSpelling (λ m. MakerFits s m.actor m.act) maker_word (maker (names_of s))
  makers = record { back = maker-back; told = maker-told; ink = maker-ink }

  -- the same of one actor
  pub own_makers : (a : ℕ) → IsSpelling (λ m. MakerFits s m.actor m.act × (m.actor ≡ a)) maker_word (maker_is (names_of s) a)
  own_makers a = record { back = back; told = told; ink = λ m h. maker-ink m h.0 } where
    back : (m : Maker) → MakerFits s m.actor m.act × (m.actor ≡ a) → maker_is (names_of s) a (maker_word m) ≡ Ok m
    back m h =
        ap (λ r. r >>= λ x. unless (x.actor == a) Form >>= λ _. Ok x) (maker-back m h.0)
        ∙ ap (λ b. unless b Form >>= λ _. Ok m) (eq-eqb m.actor a h.1)

    told : (w : Word) (m : Maker) → maker_is (names_of s) a w ≡ Ok m → (MakerFits s m.actor m.act × (m.actor ≡ a)) × (w ≡ maker_word m)
    told w m h =
        let b = bind-ok (maker (names_of s) w) (λ x. unless (x.actor == a) Form >>= λ _. Ok x) m h in
        let t = bind-ok (unless (b.0.actor == a) Form) (λ _. Ok b.0) m b.2 in
        let is : b.0.actor ≡ a = eqb-true b.0.actor a (unless-ok (b.0.actor == a) Form t.0 t.1) in
        let same : b.0 ≡ m = cc in
        let x = maker-told w b.0 b.1 in
        subst (λ (y : Maker). (MakerFits s y.actor y.act × (y.actor ≡ a)) × (w ≡ maker_word y)) same ((x.0, is), x.1)
