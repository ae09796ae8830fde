-- Where a turn may end, each whose request was decided says something, follows what is there or comes, or has its exchange.
use Rattle.std.proofs.Common.{◌≡◌, ◌⊎◌, refl, ℕ, ◌≤◌, nat_lt, Bool, true, false, not, ◌==◌, ◌&&◌, ◌||◌, [], map, is_some, Option, Some, None, inl, inr, sym, subst, ap, ◌∙◌, arith}
use Rattle.std.proofs.lemmas.Bool.Decides.{nat_tests}
use Rattle.pp_reply.specs.Keeping.{is_end_known}
use Rattle.pp_text.specs.Bytes.{is_empty}
use Rattle.pp_world.specs.declared.note.Decision.TheVariants.{Pass}
use Rattle.pp_world.specs.declared.note.Decision.{Decision}
use Rattle.pp_law.specs.Closing.{forsake, left_alone}
use Rattle.pp_law.specs.Connections.{is_for, is_trying}
use Rattle.pp_law.specs.Decisions.{decide}
use Rattle.pp_law.specs.Due.{due_by_stage, due_reply, give_up, has_lost_row, is_dry, is_told}
use Rattle.pp_law.specs.Lists.{Bytes, is_some_with, is_this}
use Rattle.pp_law.specs.Offers.{has_to_say, passed_part, piece}
use Rattle.pp_law.specs.Replies.{begin_replies, begins, begun_at_end, begun_by, begun_decided, begun_instance, begun_passed, begun_reply, has_no_more, is_outrun, is_said, may_begin, passed_reply}
use Rattle.pp_law.specs.Requests.{Front, NoHeadYet, NoHead, IsRequest, Parsed, has_request, keeps_open}
use Rattle.pp_law.specs.Sharing.{due_undecided}
use Rattle.pp_law.specs.Stages.{is_begun, is_followed_by, is_headed, is_passing, is_undecided, passed_of, reply_of}
use Rattle.pp_law.specs.State.{State, Client, Exchange, Instance, Passed, Reply, Stage, Undecided, Waiting, Passing, Answering}
use Rattle.pp_law.specs.Table.{Next, instance, is_held, is_provided, next_from, next_in, next_of, source_of, swept}
use Rattle.pp_laws.specs.Runs.{IsIn}
use Rattle.pp_laws.proofs.Lists.{From, changed_at, one_of}
use Rattle.pp_laws.proofs.Sound.{FactsOf, client_number, passes_in, source_in}
use Rattle.pp_laws.proofs.Tests.{number_same, same_number}
use Rattle.pp_laws_bounds.proofs.Counts.{in_map_of}
use Rattle.pp_laws_turn.specs.SoundTurn.{HasSource}
use Rattle.pp_laws_ends.proofs.Ahead.{begun_clients, begun_or, or_second, since}
use Rattle.pp_laws_ends.proofs.Undecided.{Ends, decides_some, none_by_stage}
use Rattle.pp_laws_served.specs.Served.{HasExchange, IsLeft, IsProvidedFor, IsReply, follows, owns, says}
use Rattle.pp_laws_served.proofs.Begins.{none_any, stays}
use Rattle.pp_laws_served.proofs.Dues.{Silent, Uncut, head_says, says_on, silent_of, trying_of, uncut}
use Rattle.pp_laws_served.proofs.HasHeads.{begun_head, begun_still}
use Rattle.pp_laws_served.proofs.Parts.{next_at, next_by}

-- ---- tests

no_next : (u : State) (c : Client) → reply_of c ≡ None → next_of u c ≡ None
no_next u c none = by c.is_closing
  where
    by : (b : Bool) → (elim b as (λ y. Option Next) [ true ↦ None | false ↦ elim (reply_of c) as (λ y. Option Next) [ None ↦ None | Some r ↦ next_in u r ] ]) ≡ None
    by true = refl
    by false = ap (λ o. elim o as (λ y. Option Next) [ None ↦ None | Some r ↦ next_in u r ]) none

no_source : (u : State) (c : Client) (r : Reply) → reply_of c ≡ Some r → r.source ≡ None → next_of u c ≡ None
no_source u c r is none = by c.is_closing
  where
    by : (b : Bool) → (elim b as (λ y. Option Next) [ true ↦ None | false ↦ elim (reply_of c) as (λ y. Option Next) [ None ↦ None | Some q ↦ next_in u q ] ]) ≡ None
    by true = refl
    by false =
        ap (λ o. elim o as (λ y. Option Next) [ None ↦ None | Some q ↦ next_in u q ]) is
        ∙ ap (λ o. elim (elim o as (λ y. Option Instance) [ None ↦ None | Some m ↦ instance u m ]) as (λ y. Option Next) [ None ↦ None | Some z ↦ next_from z r ]) none

less : (m n : ℕ) → m ≤ n → (m == n) ≡ false → nat_lt m n ≡ true
less m n le off = grind (arith, nat_tests)

some_of : {A : Type 0} (o : Option A) → is_some o ≡ true → (a : A) × (o ≡ Some a)
some_of None is = absurd (cc is)
some_of (Some a) is = (a, refl)

neither : (a b : Bool) → (a || b) ≡ false → (a ≡ false) × (b ≡ false)
neither true b off = absurd (cc off)
neither false b off = (refl, off)

one_holds : (a b : Bool) → (a ≡ true) → b ≡ true → (a && b) ≡ true
one_holds true b is on = on
one_holds false b is on = absurd (cc is)

no_and : (a b : Bool) → b ≡ false → (a && b) ≡ false
no_and true b off = off
no_and false b off = refl

both_in : (a b : Bool) → (a && b) ≡ true → (a ≡ true) × (b ≡ true)
both_in true b is = (refl, is)
both_in false b is = absurd (cc is)

on_of : (t : Bool) → not t ≡ false → t ≡ true
on_of true off = refl
on_of false off = absurd (cc off)

off_of : (t : Bool) → not (not t) ≡ false → t ≡ false
off_of true off = absurd (cc off)
off_of false off = refl

its_number : (e : Exchange) (c d : Client) → is_for e c ≡ true → is_for e d ≡ true → c.number ≡ d.number
its_number e c d one two = by e.asker one two
  where
    by : (o : Option ℕ) → is_this c.number o ≡ true → is_this d.number o ≡ true → c.number ≡ d.number
    by None a b = absurd (cc a)
    by (Some m) a b = sym (same_number m c.number a) ∙ same_number m d.number b

-- ---- one by one

module _ (t : State) (h : Ends t) (f : FactsOf since t) (sources : (c : Client) → IsIn c t.clients → HasSource t c) (left : IsLeft t) where
  own_stays : (c : Client) → IsIn c t.clients → begun_at_end t c ≡ c → (e : Exchange) → IsIn e t.exchanges → is_for e c ≡ true → IsIn e (begin_replies t).exchanges
  unfolding begin_replies swept forsake
  own_stays c i same e j its = subst (λ (x : Exchange). IsIn x (map (changed_at (is_outrun t) left_alone) t.exchanges)) is (in_map_of (changed_at (is_outrun t) left_alone) e t.exchanges j)
    where
      never : (d : Client) → IsIn d t.clients → (is_for e d && begins t d) ≡ true → ⊥
      never d k hit =
          let w = both_in (is_for e d) (begins t d) hit in
          let eq : d ≡ c = one_of client_number t.clients d c f.callers.rise k i (its_number e d c w.0 its) in
          let v = both_in (not (is_begun d)) (is_begun (begun_at_end t d)) w.1 in
          let on : is_begun d ≡ true = ap is_begun eq ∙ ap is_begun (sym same) ∙ ap (λ (x : Client). is_begun (begun_at_end t x)) (sym eq) ∙ v.1 in
          let both : false ≡ true = ap not (sym on) ∙ v.0 in cc both

      outrun : is_outrun t e ≡ false
      outrun = no_and (not (is_headed e)) _ (none_any (λ d. is_for e d && begins t d) t.clients never)

      is : changed_at (is_outrun t) left_alone e ≡ e
      is = ap (λ b. elim b as (λ x. Exchange) [ true ↦ left_alone e | false ↦ e ]) outrun

  module _ (c : Client) (i : IsIn c t.clients) (j : IsIn c (begin_replies t).clients) (same : begun_at_end t c ≡ c) (has : has_request c.front ≡ true) where
    followed : (n : Next) → next_of t c ≡ Some n → is_provided t n ≡ true → IsProvidedFor (begin_replies t) c
    followed n is on = let s = stays t f.rows.differ c n j is in follows n s.next (s.provided on)

    of_exchange : next_of (begin_replies t) c ≡ None → HasExchange t c → IsProvidedFor (begin_replies t) c
    of_exchange none w = owns none w.0 (own_stays c i same w.0 w.1 w.2) w.2

    due : due_by_stage t c ≡ None
    due = none_by_stage t c h.runs (h.going c i) (h.none c i)

    due_at : (g : Stage) → c.stage ≡ g → (elim g as (λ x. Option Decision) [
      | Undecided ↦ due_undecided t c
      | Waiting ↦ give_up c.course (elim (is_told c.brought) as (λ y. Option Decision) [ true ↦ decide t c | false ↦ None ])
      | Passing ↦ give_up c.course None
      | Answering r ↦ due_reply t c r
    ]) ≡ None
    due_at g is = sym (ap (λ (x : Stage). elim x as (λ y. Option Decision) [
      | Undecided ↦ due_undecided t c
      | Waiting ↦ give_up c.course (elim (is_told c.brought) as (λ y. Option Decision) [ true ↦ decide t c | false ↦ None ])
      | Passing ↦ give_up c.course None
      | Answering r ↦ due_reply t c r
    ]) is) ∙ due

    stages : (g : Stage) → c.stage ≡ g → is_begun (record c { stage = g }) ≡ is_begun c
    stages g is = ap (λ x. is_begun (record c { stage = x })) (sym is)

    -- its head was read
    request : is_undecided c.stage ≡ false → is_begun c ≡ false → (q : Parsed) × (c.front ≡ IsRequest q)
    request decided fresh = by c.front refl has
      where
        by : (g : Front) → c.front ≡ g → has_request g ≡ true → (q : Parsed) × (c.front ≡ IsRequest q)
        by NoHeadYet is at = absurd (cc at)
        by (NoHead status) is at = no (left.heads c status i is)
          where
            no : (is_undecided c.stage ≡ true) ⊎ (is_begun c ≡ true) → (q : Parsed) × (c.front ≡ IsRequest q)
            no (inl un) = let both : true ≡ false = sym un ∙ decided in absurd (cc both)
            no (inr on) = let both : true ≡ false = sym on ∙ fresh in absurd (cc both)
        by (IsRequest q) is at = (q, is)

    -- so it does not begin
    begins_not : (q : Parsed) → c.front ≡ IsRequest q → is_begun c ≡ false → is_begun (begun_by t q c) ≡ true → ⊥
    begins_not q front fresh on =
        let begun : is_begun (begun_at_end t c) ≡ true = ap (λ b. is_begun (elim b as (λ y. Client) [ true ↦ c | false ↦ elim c.front as (λ y. Client) [ NoHeadYet ↦ c | NoHead status ↦ c | IsRequest r ↦ begun_by t r c ] ])) (h.going c i)
        ∙ ap (λ g. is_begun (elim g as (λ y. Client) [ NoHeadYet ↦ c | NoHead status ↦ c | IsRequest r ↦ begun_by t r c ])) front ∙ on in
        let both : true ≡ false = sym begun ∙ ap is_begun same ∙ fresh in cc both

    staged : (q : Parsed) (g : Stage) → c.stage ≡ g → is_begun (elim g as (λ y. Client) [ Undecided ↦ c | Waiting ↦ c | Passing ↦ begun_passed t q Pass c | Answering r ↦ elim r.has_begun as (λ y. Client) [ true ↦ c | false ↦ begun_decided t q r c ] ]) ≡ true → is_begun (begun_by t q c) ≡ true
    staged q g is on = ap (λ x. is_begun (elim x as (λ y. Client) [ Undecided ↦ c | Waiting ↦ c | Passing ↦ begun_passed t q Pass c | Answering r ↦ elim r.has_begun as (λ y. Client) [ true ↦ c | false ↦ begun_decided t q r c ] ])) is ∙ on

    passed_on : (q : Parsed) (d : Decision) (p : Passed) → passed_of c ≡ Some p → is_begun (begun_passed t q d c) ≡ true
    passed_on q d p is = ap (λ o. is_begun (elim o as (λ y. Client) [ None ↦ c | Some x ↦ record c { stage = Answering (passed_reply t q x d); closes = not (keeps_open q && is_end_known x.rule q.head.minor) } ])) is

    waits : c.stage ≡ Waiting → IsProvidedFor (begin_replies t) c
    waits is =
        let w = trying_of c.course (elim (is_told c.brought) as (λ y. Option Decision) [ true ↦ decide t c | false ↦ None ]) (due_at Waiting is) in
        of_exchange (no_next (begin_replies t) c (ap (λ g. elim g as (λ y. Option Reply) [ Undecided ↦ None | Waiting ↦ None | Passing ↦ None | Answering r ↦ Some r ]) is))
        (left.asked c i (ap (λ g. elim g as (λ y. Bool) [ Undecided ↦ false | Waiting ↦ not (is_told c.brought) | Passing ↦ not (is_some (passed_of c)) | Answering r ↦ false ]) is ∙ ap not (untold (is_told c.brought) refl w.1)) w.0)
      where
        untold : (b : Bool) → is_told c.brought ≡ b → (elim b as (λ y. Option Decision) [ true ↦ decide t c | false ↦ None ]) ≡ None → is_told c.brought ≡ false
        untold true told at = absurd (decides_some t c has at)
        untold false off at = off

    passes : c.stage ≡ Passing → IsProvidedFor (begin_replies t) c
    passes is = by (passed_of c) refl
      where
        fresh : is_begun c ≡ false
        fresh = sym (stages Passing is)

        by : (o : Option Passed) → passed_of c ≡ o → IsProvidedFor (begin_replies t) c
        by None none =
            of_exchange (no_next (begin_replies t) c (ap (λ g. elim g as (λ y. Option Reply) [ Undecided ↦ None | Waiting ↦ None | Passing ↦ None | Answering r ↦ Some r ]) is))
            (left.asked c i (ap (λ g. elim g as (λ y. Bool) [ Undecided ↦ false | Waiting ↦ not (is_told c.brought) | Passing ↦ not (is_some (passed_of c)) | Answering r ↦ false ]) is ∙ ap (λ o. not (is_some o)) none) (trying_of c.course None (due_at Passing is)).0)
        by (Some p) some =
            let q = request (ap is_undecided is) fresh in
            absurd (begins_not q.0 q.1 fresh (staged q.0 Passing is (passed_on q.0 Pass p some)))

    -- a reply that has not begun
    module _ (r : Reply) (is : c.stage ≡ Answering r) where
      reply : reply_of c ≡ Some r
      reply = ap (λ g. elim g as (λ y. Option Reply) [ Undecided ↦ None | Waiting ↦ None | Passing ↦ None | Answering m ↦ Some m ]) is

      begun_is : is_begun c ≡ r.has_begun
      begun_is = sym (stages (Answering r) is)

      fact : IsReply c r
      fact = left.replies c r i is

      source_at : (id : ℕ) → r.source ≡ Some id → (x : Instance) × (instance t id ≡ Some x)
      source_at id source = sources c i r id reply source

      not_begun : r.has_begun ≡ false → IsProvidedFor (begin_replies t) c
      not_begun off = by (is_passing r.decision) refl
        where
          fresh : is_begun c ≡ false
          fresh = begun_is ∙ off

          q : (q : Parsed) × (c.front ≡ IsRequest q)
          q = request (ap is_undecided is) fresh

          w : (is_trying c.course ≡ true) × ((elim (has_lost_row t r) as (λ y. Option Decision) [ true ↦ decide t c | false ↦ None ]) ≡ None)
          w = trying_of c.course (elim (has_lost_row t r) as (λ y. Option Decision) [ true ↦ decide t c | false ↦ None ])
              (sym (ap (λ b. elim b as (λ y. Option Decision) [ true ↦ None | false ↦ give_up c.course (elim (has_lost_row t r) as (λ z. Option Decision) [ true ↦ decide t c | false ↦ None ]) ]) off) ∙ due_at (Answering r) is)

          has_row : (b : Bool) → has_lost_row t r ≡ b → (elim b as (λ y. Option Decision) [ true ↦ decide t c | false ↦ None ]) ≡ None → has_lost_row t r ≡ false
          has_row true lost at = absurd (decides_some t c has at)
          has_row false lost at = lost

          decided_on : (b : Bool) → is_passing r.decision ≡ b → is_begun (elim b as (λ y. Client) [ true ↦ begun_passed t q.0 r.decision c | false ↦ begun_instance t q.0 r c ]) ≡ true → ⊥
          decided_on b kind on =
              begins_not q.0 q.1 fresh (staged q.0 (Answering r) is
              (ap (λ x. is_begun (elim x as (λ y. Client) [ true ↦ c | false ↦ begun_decided t q.0 r c ])) off
              ∙ ap (λ x. is_begun (elim x as (λ y. Client) [ true ↦ begun_passed t q.0 r.decision c | false ↦ begun_instance t q.0 r c ])) kind ∙ on))

          of_row : is_passing r.decision ≡ false → (id : ℕ) → r.source ≡ Some id → (x : Instance) → instance t id ≡ Some x → (b : Bool) → may_begin t r x ≡ b → IsProvidedFor (begin_replies t) c
          of_row kept id source x found true may =
              absurd (decided_on false kept
              (ap (λ o. is_begun (elim o as (λ y. Client) [ None ↦ c | Some z ↦ elim (may_begin t r z) as (λ y. Client) [ true ↦ record c { stage = Answering (begun_reply t q.0 c r z) } | false ↦ c ] ])) (ap (λ o. elim o as (λ y. Option Instance) [ None ↦ None | Some m ↦ instance t m ]) source ∙ found)
              ∙ ap (λ b. is_begun (elim b as (λ y. Client) [ true ↦ record c { stage = Answering (begun_reply t q.0 c r x) } | false ↦ c ])) may))
          of_row kept id source x found false may =
              let lt : nat_lt r.at r.to ≡ true = less r.at r.to fact.within (neither (r.at == r.to) (is_held t x r.at) may).0 in
              let row : source_of t r ≡ Some x = ap (λ o. elim o as (λ y. Option Instance) [ None ↦ None | Some m ↦ instance t m ]) source ∙ found in
              let lost : (is_followed_by r.decision && not (is_some_with (λ (z : Instance). not z.is_retired) (source_of t r))) ≡ false = has_row (has_lost_row t r) refl w.1 in
              let stood : not (not x.is_retired) ≡ false = ap (λ o. not (is_some_with (λ (z : Instance). not z.is_retired) o)) (sym row) ∙ sym (ap (λ b. b && not (is_some_with (λ (z : Instance). not z.is_retired) (source_of t r))) (fact.followed off lt)) ∙ lost in
              let next : next_of t c ≡ Some (next_at x r) = next_by t c r id x (h.going c i) reply source found lt in
              followed (next_at x r) next (left.filled c (next_at x r) i next w.0 (off_of x.is_retired stood))

          by : (b : Bool) → is_passing r.decision ≡ b → IsProvidedFor (begin_replies t) c
          by true passing = let p = some_of (passed_of c) (fact.passed passing).0 in absurd (decided_on true passing (passed_on q.0 r.decision p.0 p.1))
          by false kept =
              let s = some_of r.source (fact.decided kept off).1 in
              let x = source_at s.0 s.1 in
              of_row kept s.0 s.1 x.0 x.1 (may_begin t r x.0) refl

      said_so : Silent (begin_replies t) c r → r.has_begun ≡ true → has_no_more c r ≡ true → is_said c ≡ true
      said_so silent on none =
          one_holds (is_empty c.interim_left) _ silent.interim
          (ap (λ o. is_some_with (λ (m : Reply). m.has_begun && is_empty m.head_left && has_no_more c m) o) reply
          ∙ three_hold r.has_begun (is_empty r.head_left) (has_no_more c r) on silent.head none)
        where
          three_hold : (a b d : Bool) → a ≡ true → b ≡ true → d ≡ true → (a && b && d) ≡ true
          three_hold true true true x y z = refl
          three_hold false b d x y z = absurd (cc x)
          three_hold true false d x y z = absurd (cc y)
          three_hold true true false x y z = absurd (cc z)

      -- one that has
      begun_one : r.has_begun ≡ true → IsProvidedFor (begin_replies t) c
      begun_one on = by (has_to_say (begin_replies t) c) refl
        where
          cut : Uncut t c
          cut = uncut t c (h.going c i) (h.none c i)

          dry : has_to_say (begin_replies t) c ≡ false → is_dry t c ≡ true
          dry off = one_holds (is_begun c) (not (has_to_say t c)) (begun_is ∙ on) (silent_before (has_to_say t c) refl)
            where
              silent_before : (b : Bool) → has_to_say t c ≡ b → not b ≡ true
              silent_before true says_it =
                  let both : true ≡ false = sym (says_on t (begin_replies t) c (λ n at. let s = stays t f.rows.differ c n j at in (s.next, s.held, s.piece)) says_it) ∙ off in
                  absurd (cc both)
              silent_before false quiet = refl

          over : (a b : ℕ) → a ≡ b → (a == b) ≡ true
          over a b eq = ap (λ m. m == b) eq ∙ number_same b

          and_both : (a b : Bool) → a ≡ true → b ≡ true → (a && b) ≡ true
          and_both a b x y = one_holds a b x y

          never : is_said c ≡ true → ⊥
          never said = let both : true ≡ false = sym said ∙ left.unsaid c i in cc both

          passed_by_it : has_to_say (begin_replies t) c ≡ false → is_passing r.decision ≡ true → Silent (begin_replies t) c r → (p : Passed) → passed_of c ≡ Some p → (b : Bool) → p.pipe.is_finished ≡ b → IsProvidedFor (begin_replies t) c
          passed_by_it off passing silent p is_p true ends =
              let bytes : is_empty p.pipe.bytes ≡ true =
              sym (ap (λ b. is_empty (elim b as (λ y. Bytes) [ true ↦ passed_part c | false ↦ elim (next_of (begin_replies t) c) as (λ y. Bytes) [ None ↦ [] | Some n ↦ piece (begin_replies t) n ] ])) passing ∙ ap (λ o. is_empty (elim o as (λ y. Bytes) [ None ↦ [] | Some x ↦ x.pipe.bytes ])) is_p) ∙ silent.body in
              absurd (never (said_so silent on
              (and_both (r.at == r.to) (not (is_passing r.decision) || is_some_with (λ (x : Passed). x.pipe.is_finished && is_empty x.pipe.bytes) (passed_of c)) (over r.at r.to (fact.passed passing).1)
              (or_second (not (is_passing r.decision)) _ (ap (λ o. is_some_with (λ (x : Passed). x.pipe.is_finished && is_empty x.pipe.bytes) o) is_p ∙ and_both p.pipe.is_finished (is_empty p.pipe.bytes) ends bytes)))))
          passed_by_it off passing silent p is_p false goes =
              of_exchange (no_source (begin_replies t) c r reply (none_source r.source refl))
              (left.amid c r p i is passing is_p (short_not p.is_short refl) goes (cut.tries (dry off)))
            where
              none_source : (o : Option ℕ) → r.source ≡ o → r.source ≡ None
              none_source None none = none
              none_source (Some id) some =
                  let kept : passes_in c.stage ≡ false = (f.callers.follows c id i (ap source_in is ∙ some)).is_kept in
                  let both : true ≡ false = sym passing ∙ sym (ap passes_in is) ∙ kept in absurd (cc both)

              short_not : (b : Bool) → p.is_short ≡ b → p.is_short ≡ false
              short_not false off_it = off_it
              short_not true on_it =
                  let both : true ≡ false = sym (ap (λ o. is_some_with (λ (x : Passed). x.is_short && not x.pipe.is_finished) o) is_p ∙ and_both p.is_short (not p.pipe.is_finished) on_it (ap not goes)) ∙ cut.whole (dry off) in
                  absurd (cc both)

          of_row : has_to_say (begin_replies t) c ≡ false → is_passing r.decision ≡ false → Silent (begin_replies t) c r → (b : Bool) → (r.at == r.to) ≡ b → IsProvidedFor (begin_replies t) c
          of_row off kept silent true ends =
              absurd (never (said_so silent on (and_both (r.at == r.to) _ ends (ap (λ b. not b || is_some_with (λ (x : Passed). x.pipe.is_finished && is_empty x.pipe.bytes) (passed_of c)) kept))))
          of_row off kept silent false goes =
              let lt : nat_lt r.at r.to ≡ true = less r.at r.to fact.within goes in
              let s = some_of r.source (fact.sourced kept lt) in
              let x = source_at s.0 s.1 in
              at_row x.0 (next_by t c r s.0 x.0 (h.going c i) reply s.1 x.1 lt) x.0.is_retired refl
            where
              at_row : (x : Instance) → next_of t c ≡ Some (next_at x r) → (b : Bool) → x.is_retired ≡ b → IsProvidedFor (begin_replies t) c
              at_row x next false stands = followed (next_at x r) next (left.filled c (next_at x r) i next (cut.tries (dry off)) stands)
              at_row x next true retired =
                  followed (next_at x r) next
                  (on_of (is_provided t (next_at x r))
                  (sym (ap (λ o. is_some_with (λ (n : Next). n.source.is_retired && not (is_provided t n)) o) next ∙ ap (λ b. b && not (is_provided t (next_at x r))) retired) ∙ cut.stands (begun_is ∙ on)))

          by : (b : Bool) → has_to_say (begin_replies t) c ≡ b → IsProvidedFor (begin_replies t) c
          by true said = says said
          by false off = kind (is_passing r.decision) refl
            where
              silent : Silent (begin_replies t) c r
              silent = silent_of (begin_replies t) c r reply on off

              kind : (b : Bool) → is_passing r.decision ≡ b → IsProvidedFor (begin_replies t) c
              kind true passing = let p = some_of (passed_of c) (fact.passed passing).0 in passed_by_it off passing silent p.0 p.1 p.0.pipe.is_finished refl
              kind false kept = of_row off kept silent (r.at == r.to) refl

      answers : IsProvidedFor (begin_replies t) c
      answers = by r.has_begun refl
        where
          by : (b : Bool) → r.has_begun ≡ b → IsProvidedFor (begin_replies t) c
          by true on = begun_one on
          by false off = not_begun off

    stayed : is_undecided c.stage ≡ false → IsProvidedFor (begin_replies t) c
    stayed decided = by c.stage refl decided
      where
        by : (g : Stage) → c.stage ≡ g → is_undecided g ≡ false → IsProvidedFor (begin_replies t) c
        by Undecided is at = absurd (cc at)
        by Waiting is at = waits is
        by Passing is at = passes is
        by (Answering r) is at = answers r is

  pub provided_for : (c : Client) → IsIn c (begin_replies t).clients → has_request c.front ≡ true → is_undecided c.stage ≡ false → IsProvidedFor (begin_replies t) c
  provided_for c j has decided = by (begun_clients t c j)
    where
      same_one : (d : Client) → IsIn d t.clients → c ≡ begun_at_end t d → begun_at_end t d ≡ d → IsProvidedFor (begin_replies t) c
      same_one d i is stays_it =
          let eq : c ≡ d = is ∙ stays_it in
          stayed c (subst (λ (x : Client). IsIn x t.clients) (sym eq) i) j (subst (λ (x : Client). begun_at_end t x ≡ x) (sym eq) stays_it) has decided

      newly : (d : Client) → IsIn d t.clients → c ≡ begun_at_end t d → is_begun (begun_at_end t d) ≡ true → (b : Bool) → is_begun d ≡ b → IsProvidedFor (begin_replies t) c
      newly d i is begun true was = same_one d i is (begun_still t d was)
      newly d i is begun false fresh =
          let k = begun_head t d (λ r at. left.replies d r i at) fresh begun in
          says (head_says (begin_replies t) c k.reply (ap reply_of is ∙ k.is) k.begun k.head)

      by : From (begun_at_end t) t.clients c → IsProvidedFor (begin_replies t) c
      by w = either (begun_or t w.was)
        where
          either : (begun_at_end t w.was ≡ w.was) ⊎ (is_begun (begun_at_end t w.was) ≡ true) → IsProvidedFor (begin_replies t) c
          either (inl stays_it) = same_one w.was w.there w.is stays_it
          either (inr begun) = newly w.was w.there w.is begun (is_begun w.was) refl
