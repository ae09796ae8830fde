-- While a connection is read, what was passed came: piece by piece.
use Rattle.std.proofs.Common.{◌≡◌, refl, ℕ, zero, suc, ◌<◌, ◌≤◌, Bool, true, false, ◌==◌, ◌||◌, List, [], ◌∷◌, ◌++◌, drop, length, Option, Some, None, Ok, inl, inr, sym, subst, ap, ◌∙◌, arith}
use Rattle.std.proofs.lemmas.List.{append-nil}
use Rattle.pp_framing.specs.Body.{Body, Outcome, Done, Going, Bad}
use Rattle.pp_framing.specs.Framing.{rule_of}
use Rattle.pp_framing.specs.Rules.{body_of}
use Rattle.pp_framing.specs.declared.body.BodyRule.{BodyRule}
use Rattle.pp_head.specs.Read.{Whole}
use Rattle.pp_head.specs.Response.{Response, response_at}
use Rattle.pp_pipe.specs.Front.{is_interim}
use Rattle.pp_text.specs.Bytes.{is_empty}
use Rattle.pp_world.specs.Log.{Log}
use Rattle.pp_world.specs.Streams.{got as got_of, said}
use Rattle.pp_law.specs.Connections.{conn, front_of_line, is_conn, is_for}
use Rattle.pp_law.specs.Lists.{Bytes}
use Rattle.pp_law.specs.Responses.{asks_head, answer_with, next_piece, got, payload_of}
use Rattle.pp_law.specs.State.{State, Term, Answer, Client, Conn, Exchange}
use Rattle.pp_laws.specs.Runs.{IsIn, state_after}
use Rattle.pp_laws.proofs.Lists.{in_find, one_of}
use Rattle.pp_laws.proofs.Payloads.{payload-nothing}
use Rattle.pp_laws.proofs.Pieces.{front_by, next_piece-sound}
use Rattle.pp_laws.proofs.Sound.{Since as SoundSince, Sound, conn_number, first_of}
use Rattle.pp_laws.proofs.Tests.{same_number}
use Rattle.pp_laws_pool.proofs.View.{Holds, holds, facts_of, view}
use Rattle.pp_laws_replies.proofs.Quiet.{Quietly}
use Rattle.pp_laws_replies.proofs.QuietHeads.{next_piece-quiet}
use Rattle.pp_laws_lines.proofs.Lined.{IsPlain, Lined, facts_of as lines_of, named_here, naming, plain_named, same_names}
use Rattle.pp_laws_lines.proofs.LinedHeads.{next_piece-lined}
use Rattle.pp_laws_lines.proofs.Stands.{Since}
use Rattle.pp_laws_passed.proofs.Fed.{AreAnswered, Answers, Fed, Grows, Tale, facts_of as fed_facts}
use Rattle.pp_laws_passed.proofs.FedHappenings.{retold}
use Rattle.pp_laws_passed.proofs.FedHeads.{Comes, Hears, IsDone, Stem, asker_of, next_piece-fed, stems_quiet}
use Rattle.pp_laws_sent.specs.Stands.{WasAskedOn}
use Rattle.pp_laws_sent.specs.Whole.{HasArrived, by_itself}
use Rattle.pp_laws_sent.proofs.Arrived.{arrived_by, done_cut, its_own_now}
use Rattle.pp_laws_sent.proofs.Came.{Began, Came, came_named, none_apart}
use Rattle.pp_laws_sent.proofs.Ours.{Ours, Stood, next_piece-ours}
use Rattle.pp_laws_sent.proofs.Pieces.{Reading, at_end, began, closing_there, end_here, next_piece-came, nobody_there, stopped}

-- what came, by the log
abbrev pub tale_with : List Term → Log → (ℕ → Bytes) → (ℕ → Option ℕ) → Tale
tale_with terms log told firsts = record { said = told; but = None; follows = true; firsts = firsts; came = HasArrived terms log }

-- what a read left
pub record HasHeard (terms : List Term) (log : Log) (told : ℕ → Bytes) (b : Since) (n : ℕ) (s : State) : Type 0 where
  pub firsts : ℕ → Option ℕ
  pub lines : Lined (record b { firsts = firsts }) s
  pub came : Holds (Reading (λ number. got_of number log) (WasAskedOn terms log) firsts n [] none_apart) s
  pub fed : Fed (tale_with terms log told firsts) s

-- the bytes of this read are in the log; it began in this state
module _ (terms : List Term) (front behind log : Log) (parts : front ++ behind ≡ log) (told : ℕ → Bytes) where
  abbrev o : State
  o = state_after terms front

  abbrev total : ℕ → Bytes
  total number = got_of number log

  abbrev asked : ℕ → Exchange → Type 0
  asked number e = WasAskedOn terms log number e

  -- ---- a piece

  module _ (firsts : ℕ → Option ℕ) (k : Conn) (bytes : Bytes) (s : State) (there : IsIn k s.conns) (is_open : k.is_closing ≡ false) (h : Holds (Reading total asked firsts k.number bytes none_apart) s) (named : firsts k.number ≡ first_of k.line) (quiet : Quietly o s) (ours : Holds (Ours o) s) where
    stood : (e : Exchange) (d : Client) → front_of_line s k ≡ Some e → IsIn d s.clients → is_for e d ≡ true → Stood o k.number e.number d.number
    stood e d first i hit = let w = front_by s k.line e first in facts_of ours k e d.number there w.0 (in_line k.line e.number w.1) (asker_of e d hit)
      where
        in_line : (line : List ℕ) (n : ℕ) → first_of line ≡ Some n → IsIn n line
        in_line [] n is = absurd (cc is)
        in_line (m ∷ line) n is = let eq : m ≡ n = cc in inl (sym eq)

    expected : (e : Exchange) (n : ℕ) → front_of_line s k ≡ Some e → n ≡ e.number → firsts k.number ≡ Some n
    expected e n first is = named ∙ (front_by s k.line e first).1 ∙ ap (λ m. Some m) (sym is)

    begins : (e : Exchange) (head : Response) (rule : BodyRule) → k.answer ≡ None → front_of_line s k ≡ Some e → response_at (k.unread ++ bytes) ≡ Whole head → is_interim head.status ≡ false → rule_of (asks_head e) head.status head.fields ≡ Ok rule → (is_whole : Bool) → (is_whole ≡ true → IsDone (body_of rule []).outcome)
        → Comes (tale_with terms log told firsts) e s.clients head rule [] is_whole
    begins e head rule none first whole final ruled is_whole done d i hit =
        let own = its_own_now terms front behind log parts k.number e d (stood e d first i hit) (stems_quiet o s quiet d i) in
        subst (λ xs. HasArrived terms log d.number d.index head rule xs is_whole) (payload-nothing rule)
        (arrived_by terms log k.number (drop head.length (k.unread ++ bytes)) (firsts k.number) (answer_with e head rule) d.number d.index own.0 (began total asked firsts k bytes s there none is_open h named head whole final e first rule ruled) own.1 (expected e own.0.number first own.2) [] (drop head.length (k.unread ++ bytes)) refl is_whole
        (λ stream came so. by_itself (ends (done so))))
      where
        ends : IsDone (body_of rule []).outcome → (body_of rule []).outcome ≡ Done []
        ends is = let c = done_cut rule [] is.0 is.1 in is.1 ∙ ap (λ (xs : Bytes). Done xs) (nothing c.used is.0 c.parts)
          where
            nothing : (xs ys : Bytes) → [] ≡ xs ++ ys → ys ≡ []
            nothing [] ys eq = sym eq
            nothing (x ∷ xs) ys eq = absurd (cc eq)

    goes : (e : Exchange) (a : Answer) → k.answer ≡ Some a → front_of_line s k ≡ Some e → (is_whole : Bool) → (is_whole ≡ true → IsDone (body_of a.rule (a.raw ++ bytes)).outcome) → Comes (tale_with terms log told firsts) e s.clients a.head a.rule (body_of a.rule (a.raw ++ bytes)).payload is_whole
    goes e a has first is_whole done d i hit = by is_whole done
      where
        came_so : Began (total k.number) bytes (asked k.number) (firsts k.number) a
        came_so = subst (λ (x : Bytes). Began (total k.number) x (asked k.number) (firsts k.number) a) (end_here k.number bytes) ((facts_of h).begun k a there has)

        by : (t : Bool) → (t ≡ true → IsDone (body_of a.rule (a.raw ++ bytes)).outcome) → HasArrived terms log d.number d.index a.head a.rule (body_of a.rule (a.raw ++ bytes)).payload t
        by false is =
            let own = its_own_now terms front behind log parts k.number e d (stood e d first i hit) (stems_quiet o s quiet d i) in
            arrived_by terms log k.number bytes (firsts k.number) a d.number d.index own.0 came_so own.1 (expected e own.0.number first own.2) (a.raw ++ bytes) [] (sym (append-nil (a.raw ++ bytes))) false (λ stream came so. absurd (cc so))
        by true is =
            let own = its_own_now terms front behind log parts k.number e d (stood e d first i hit) (stems_quiet o s quiet d i) in
            let end = is refl in
            let c = done_cut a.rule (a.raw ++ bytes) end.0 end.1 in
            subst (λ xs. HasArrived terms log d.number d.index a.head a.rule xs true) c.same
            (arrived_by terms log k.number bytes (firsts k.number) a d.number d.index own.0 came_so own.1 (expected e own.0.number first own.2) c.used end.0 c.parts true (λ stream came so. by_itself c.ends))

    heard : Hears (tale_with terms log told firsts) k bytes s
    heard = record { named = named; begins = begins; goes = goes }

  -- ---- one piece behind the other

  -- of one that is not answered
  renamed-fed : (firsts : ℕ → Option ℕ) (n : ℕ) (to : Option ℕ) (s : State) → ((j : Conn) (a : Answer) → IsIn j s.conns → j.number ≡ n → j.answer ≡ Some a → ⊥) → Fed (tale_with terms log told firsts) s → Fed (tale_with terms log told (λ m. elim (m == n) [ true ↦ to | false ↦ firsts m ])) s
  renamed-fed firsts n to s none h =
      retold (tale_with terms log told firsts) (tale_with terms log told (λ m. elim (m == n) as (λ c. Option ℕ) [ true ↦ to | false ↦ firsts m ])) s (λ m. refl) (record { but = λ m isnt. isnt; follows = λ is. is; came = λ m i head rule content is_whole c. c }) answers h
    where
      answers : AreAnswered (tale_with terms log told (λ m. elim (m == n) as (λ c. Option ℕ) [ true ↦ to | false ↦ firsts m ])) s.exchanges s.conns s.next_exchange
      answers on j a m i is named = by (j.number == n) refl
        where
          by : (t : Bool) → (j.number == n) ≡ t → Answers m s.exchanges s.next_exchange
          by true hit = absurd (none j a i (same_number j.number n hit) is)
          by false isnt = (fed_facts h).answers on j a m i is (sym (ap (λ (t : Bool). elim t as (λ c. Option ℕ) [ true ↦ to | false ↦ firsts j.number ]) isnt) ∙ named)

  -- what holds while it is read
  pub record While (sound : SoundSince) (b : Since) (n : ℕ) (bytes : Bytes) (s : State) : Type 0 where
    pub plain : IsPlain b
    pub lines : Lined b s
    pub came : Holds (Reading total asked b.firsts n bytes none_apart) s
    pub sounds : Sound sound s
    pub quiet : Quietly o s
    pub ours : Holds (Ours o) s
    pub fed : Fed (tale_with terms log told b.firsts) s

  module _ (sound : SoundSince) (none_but : sound.excepts ≡ None) where
    all_heard : (b : Since) (n : ℕ) (bytes : Bytes) (s : State) → Holds (Reading total asked b.firsts n [] none_apart) s → While sound b n bytes s → HasHeard terms log told b n s
    all_heard b n bytes s h w = record { firsts = b.firsts; lines = same_names s w.plain w.lines; came = h; fed = w.fed }

    hear_piece : (more n : ℕ) (bytes : Bytes) (b : Since) (s : State) (k : Conn) → length bytes ≤ suc more → IsIn k s.conns → k.number ≡ n → k.is_closing ≡ false → 0 < length bytes → While sound b k.number bytes s
        → ((c : Since) (rest : Bytes) (u : State) → length rest ≤ more → While sound c n rest u → HasHeard terms log told c n (got more n rest u)) → HasHeard terms log told b n (got more n (next_piece k bytes s).rest (next_piece k bytes s).state)
    hear_piece more n bytes b s k le there number is_open some w later = by k.answer refl (next_piece-lined k bytes s w.plain there is_open w.lines)
      where
        unanswered : k.answer ≡ None → (j : Conn) (a : Answer) → IsIn j s.conns → j.number ≡ k.number → j.answer ≡ Some a → ⊥
        unanswered none j a i same_n is =
            let it : j ≡ k = one_of conn_number s.conns j k (lines_of w.lines).apart i there same_n in
            let both : None ≡ Some a = sym (ap (λ (x : Conn). x.answer) it ∙ none) ∙ is in cc both

        rest : Bytes
        rest = (next_piece k bytes s).rest

        u : State
        u = (next_piece k bytes s).state

        -- with these names
        goes_on : (c : Since) → IsPlain c → c.firsts k.number ≡ first_of k.line → Lined c (next_piece k bytes s).state → Holds (Reading total asked c.firsts k.number bytes none_apart) s → Fed (tale_with terms log told c.firsts) s → HasHeard terms log told c n (got more n (next_piece k bytes s).rest (next_piece k bytes s).state)
        goes_on c p named lu h f =
            let piece = next_piece-came total asked c.firsts k bytes s there is_open some h named in
            let less : length (next_piece k bytes s).rest < length bytes = piece.less in
            later c (next_piece k bytes s).rest (next_piece k bytes s).state (omega arith) (record {
              plain = p;
              lines = lu;
              came = subst (λ m. Holds (Reading total asked c.firsts m (next_piece k bytes s).rest none_apart) (next_piece k bytes s).state) number piece.kept;
              sounds = next_piece-sound k bytes s none_but there w.sounds;
              quiet = next_piece-quiet k bytes s w.quiet;
              ours = next_piece-ours o k bytes s w.ours;
              fed = next_piece-fed {tale = tale_with terms log told c.firsts} k bytes s refl there (λ on. heard c.firsts k bytes s there is_open h named w.quiet w.ours) w.sounds f;
            })

        by : (a : Option Answer) → k.answer ≡ a → Lined (elim a as (λ x. Since) [ Some x ↦ b | None ↦ naming b k.number (first_of k.line) ]) (next_piece k bytes s).state → HasHeard terms log told b n (got more n (next_piece k bytes s).rest (next_piece k bytes s).state)
        by None none lu =
            let r = goes_on (naming b k.number (first_of k.line)) (plain_named k.number (first_of k.line) w.plain) (named_here b k.number (first_of k.line)) lu
            (holds (came_named total (at_end k.number bytes) asked b.firsts true none_apart k.number (first_of k.line) (view s) (unanswered none) (facts_of w.came)))
            (renamed-fed b.firsts k.number (first_of k.line) s (unanswered none) w.fed) in
            record { firsts = r.firsts; lines = r.lines; came = r.came; fed = r.fed }
        by (Some a) has lu =
            let heads = (lines_of w.lines).answers k a there has (λ is. let both : None ≡ Some k.number = sym w.plain.but ∙ is in cc both) in
            goes_on b w.plain (heads.expected ∙ sym heads.first) lu w.came w.fed

    pub got-heard : (more n : ℕ) (bytes : Bytes) (b : Since) (s : State) → length bytes ≤ more → While sound b n bytes s → HasHeard terms log told b n (got more n bytes s)
    unfolding got
    got-heard zero n [] b s le w = all_heard b n [] s w.came w
    got-heard zero n (x ∷ bytes) b s le w = let none : ⊥ = omega arith in absurd none
    got-heard (suc more) n bytes b s le w = by (conn s n) refl (λ c rest u le2 v. got-heard more n rest c u le2 v)
      where
        reads_on : (k : Conn) → conn s n ≡ Some k → (closing : Bool) → k.is_closing ≡ closing → (xs : Bytes) → bytes ≡ xs → ((c : Since) (rest : Bytes) (u : State) → length rest ≤ more → While sound c n rest u → HasHeard terms log told c n (got more n rest u))
            → HasHeard terms log told b n (elim (closing || is_empty xs) as (λ c. State) [ true ↦ s | false ↦ got more n (next_piece k bytes s).rest (next_piece k bytes s).state ])
        reads_on k found true is xs same_xs later =
            let there = in_find (is_conn n) k s.conns found in
            all_heard b n bytes s (stopped total asked b.firsts n bytes s (closing_there total asked b.firsts n k bytes s there.0 (same_number k.number n there.1) is w.came) w.came) w
        reads_on k found false is [] same_xs later = all_heard b n bytes s (subst (λ (ys : Bytes). Holds (Reading total asked b.firsts n ys none_apart) s) same_xs w.came) w
        reads_on k found false is (x ∷ xs) same_xs later =
            let there = in_find (is_conn n) k s.conns found in
            let long : length bytes ≡ length (x ∷ xs) = ap (λ (ys : Bytes). length ys) same_xs in
            hear_piece more n bytes b s k le there.0 (same_number k.number n there.1) is (omega arith) (subst (λ m. While sound b m bytes s) (sym (same_number k.number n there.1)) w) later

        by : (found : Option Conn) → conn s n ≡ found → ((c : Since) (rest : Bytes) (u : State) → length rest ≤ more → While sound c n rest u → HasHeard terms log told c n (got more n rest u))
            → HasHeard terms log told b n (elim found as (λ c. State) [ None ↦ s | Some k ↦ elim (k.is_closing || is_empty bytes) as (λ c. State) [ true ↦ s | false ↦ got more n (next_piece k bytes s).rest (next_piece k bytes s).state ] ])
        by None none later = all_heard b n bytes s (stopped total asked b.firsts n bytes s (nobody_there total asked b.firsts n s none) w.came) w
        by (Some k) found later = reads_on k found k.is_closing refl bytes refl later
