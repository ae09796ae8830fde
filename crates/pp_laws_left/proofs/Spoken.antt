-- What is kept of replies: one that was said whole is over, and one that is passed has its response.
use Rattle.std.proofs.Common.{◌≡◌, refl, ℕ, ◌+◌, ◌-◌, Bool, true, false, not, ◌==◌, ◌&&◌, ◌||◌, nat_le, List, [], ◌∷◌, drop, length, map, filter, is_some, Option, Some, None, sym, subst, ap, ◌∙◌}
use Rattle.pp_pass.specs.Pipe.{Pipe, without_first}
use Rattle.pp_text.specs.Bytes.{is_empty}
use Rattle.pp_law.specs.Lists.{Bytes, change, is_some_with}
use Rattle.pp_law.specs.Replies.{is_said, said_by, said_of, said_of_body}
use Rattle.pp_law.specs.Stages.{is_passing, on_passed, passed_of, reply_of}
use Rattle.pp_law.specs.State.{State, Phase, Owed, Client, Passed, Passes as IsPassed, Reply, Stage, Undecided, Waiting, Passing, Answering}
use Rattle.pp_laws.specs.Numbers.{AreRising}
use Rattle.pp_laws.specs.Runs.{IsIn}
use Rattle.pp_laws.proofs.Lists.{Changed, in_change, in_filter, other, rise_change, rise_filter, same}
use Rattle.pp_laws.proofs.Sound.{client_number}
use Rattle.pp_laws_left.proofs.Fine.{one_reply}
use Rattle.pp_laws_left.proofs.Keep.{AtEvent, Keeps, Kept, begun_in, facts_of as keeps_of, is_early, pipe_of}

-- ---- a client

-- its reply is passed
abbrev pub Passes : Client → Reply → Type 0
Passes c r = (c.stage ≡ Answering r) × (is_passing r.decision ≡ true)

-- it is in the midst of a reply that is not passed
abbrev pub Reads : Client → Reply → Type 0
Reads c r = (c.stage ≡ Answering r) × ((r.has_begun ≡ true) × (is_passing r.decision ≡ false))

-- as long as it goes on: a reply that was said whole is over, which is looked at as replies are over; one that is passed has its
-- response; and where an event is awaited or handled it has begun. To who is in the midst of another nothing is passed
pub record Speaks (looks : Bool) (At : Type 0) (c : Client) : Type 0 where
  pub unsaid : looks ≡ true → c.is_closing ≡ false → is_said c ≡ false
  pub passed : c.is_closing ≡ false → (r : Reply) → Passes c r → is_some (passed_of c) ≡ true
  pub begun : At → c.is_closing ≡ false → (r : Reply) → Passes c r → r.has_begun ≡ true
  pub bare : (r : Reply) → Reads c r → passed_of c ≡ None

-- ---- tests

pub no_test : (t : Bool) → (t ≡ true → ⊥) → t ≡ false
no_test true none = absurd (none refl)
no_test false none = refl

pub never : (a : Bool) → (a && false) ≡ false
never true = refl
never false = refl

abbrev pub is_whole : Option Passed → Bool
is_whole o = is_some_with (λ p. p.pipe.is_finished && is_empty p.pipe.bytes) o

abbrev pub said_in : Bytes → Stage → Bool → Bool
said_in interim stage whole = is_empty interim
    && is_some_with (λ r. r.has_begun && is_empty r.head_left && ((r.at == r.to) && (not (is_passing r.decision) || whole))) (elim stage as (λ y. Option Reply) [ Undecided ↦ None | Waiting ↦ None | Passing ↦ None | Answering r ↦ Some r ])

said_as : (c : Client) → is_said c ≡ said_in c.interim_left c.stage (is_whole (passed_of c))
said_as c = refl

abbrev whole_pipe : Option Pipe → Bool
whole_pipe None = false
whole_pipe (Some pipe) = pipe.is_finished && is_empty pipe.bytes

whole_by : (o : Option Passed) → is_whole o ≡ whole_pipe (pipe_of o)
whole_by None = refl
whole_by (Some p) = refl

some_by : (o : Option Passed) → is_some (pipe_of o) ≡ is_some o
some_by None = refl
some_by (Some p) = refl

same_whole : (o p : Option Passed) → pipe_of o ≡ pipe_of p → is_whole o ≡ is_whole p
same_whole o p is = whole_by o ∙ ap whole_pipe is ∙ sym (whole_by p)

pub same_some : (o p : Option Passed) → pipe_of o ≡ pipe_of p → is_some o ≡ is_some p
same_some o p is = sym (some_by o) ∙ ap (λ (x : Option Pipe). is_some x) is ∙ some_by p

-- ---- where nothing is told

going : {exact : Bool} (d c : Client) → Kept exact d c → d.is_closing ≡ false → c.is_closing ≡ false
going d c k runs = no_test c.is_closing (λ is. let both : true ≡ false = sym (k.closing is) ∙ runs in cc both)

pub unsaid_on : (d c : Client) → Kept true d c → d.is_closing ≡ false → (c.is_closing ≡ false → is_said c ≡ false) → is_said d ≡ false
unsaid_on d c k runs off =
    ap (λ i. said_in i d.stage (is_whole (passed_of d))) k.interim
    ∙ ap (λ g. said_in c.interim_left g (is_whole (passed_of d))) k.stage
    ∙ ap (λ w. said_in c.interim_left c.stage w) (same_whole (passed_of d) (passed_of c) (k.pipe refl))
    ∙ off (going d c k runs)

none_of : (o : Option Passed) → is_some o ≡ false → o ≡ None
none_of None off = refl
none_of (Some p) off = absurd (cc off)

pub bare_on : {exact : Bool} (d c : Client) → Kept exact d c → ((r : Reply) → Reads c r → passed_of c ≡ None) → (r : Reply) → Reads d r → passed_of d ≡ None
bare_on d c k bare r is =
    let at : c.stage ≡ Answering r = sym k.stage ∙ is.0 in
    none_of (passed_of d) (k.passed (ap begun_in at ∙ is.1.0) ∙ ap (λ (o : Option Passed). is_some o) (bare r (at, is.1)))

pub speaks_on : {looks : Bool} {At Was : Type 0} (d c : Client) → (At → Was) → Kept true d c → Speaks looks Was c → Speaks looks At d
speaks_on d c was k h = record {
  unsaid = λ is runs. unsaid_on d c k runs (h.unsaid is);
  passed = λ runs r is. same_some (passed_of d) (passed_of c) (k.pipe refl) ∙ h.passed (going d c k runs) r (sym k.stage ∙ is.0, is.1);
  begun = λ at runs r is. h.begun (was at) (going d c k runs) r (sym k.stage ∙ is.0, is.1);
  bare = bare_on d c k h.bare;
}

-- where something comes, each reply that is passed has begun
pub speaks_got : {looks : Bool} {At Was : Type 0} (d c : Client) → Was → Kept false d c → Speaks looks Was c → Speaks false At d
speaks_got d c was k h = record {
  unsaid = λ is. absurd (cc is);
  passed = λ runs r is.
      let at : Passes c r = (sym k.stage ∙ is.0, is.1) in
      k.passed (ap begun_in at.0 ∙ h.begun was (going d c k runs) r at) ∙ h.passed (going d c k runs) r at;
  begun = λ at runs r is. h.begun was (going d c k runs) r (sym k.stage ∙ is.0, is.1);
  bare = bare_on d c k h.bare;
}

-- ---- a reply goes on

-- of the same decision, begun where it had
pub restaged : {looks : Bool} {At : Type 0} (d c : Client) (q r : Reply) → c.stage ≡ Answering r → d.stage ≡ Answering q → q.decision ≡ r.decision → q.has_begun ≡ r.has_begun → (d.is_closing ≡ false → c.is_closing ≡ false) → is_some (passed_of d) ≡ is_some (passed_of c)
    → Speaks looks At c → Speaks false At d
restaged d c q r stood now decision begun runs some h = record {
  unsaid = λ is. absurd (cc is);
  passed = λ goes p is. some ∙ h.passed (runs goes) r (stood, ap is_passing (sym decision ∙ ap (λ (x : Reply). x.decision) (one_reply (sym now ∙ is.0))) ∙ is.1);
  begun = λ at goes p is.
      let one : q ≡ p = one_reply (sym now ∙ is.0) in
      ap (λ (x : Reply). x.has_begun) (sym one) ∙ begun ∙ h.begun at (runs goes) r (stood, ap is_passing (sym decision ∙ ap (λ (x : Reply). x.decision) one) ∙ is.1);
  bare = λ p is.
      let one : q ≡ p = one_reply (sym now ∙ is.0) in
      none_of (passed_of d) (some ∙ ap (λ (o : Option Passed). is_some o) (h.bare r (stood, (sym begun ∙ ap (λ (x : Reply). x.has_begun) one ∙ is.1.0, ap is_passing (sym decision ∙ ap (λ (x : Reply). x.decision) one) ∙ is.1.1))));
}

piped_some : (f : Passed → Passed) (c : Client) → is_some (passed_of (on_passed f c)) ≡ is_some (passed_of c)
piped_some f c = by (passed_of c) refl
  where
    by : (o : Option Passed) → passed_of c ≡ o → is_some (passed_of (elim o as (λ x. Client) [ None ↦ c | Some p ↦ record c { brought = IsPassed (f p) } ])) ≡ is_some (passed_of c)
    by None none = refl
    by (Some p) some = sym (ap (λ (o : Option Passed). is_some o) some)

piped_stage : (f : Passed → Passed) (c : Client) → ((on_passed f c).stage ≡ c.stage) × ((on_passed f c).is_closing ≡ c.is_closing)
piped_stage f c = by (passed_of c)
  where
    by : (o : Option Passed) → ((elim o as (λ x. Client) [ None ↦ c | Some p ↦ record c { brought = IsPassed (f p) } ]).stage ≡ c.stage)
        × ((elim o as (λ x. Client) [ None ↦ c | Some p ↦ record c { brought = IsPassed (f p) } ]).is_closing ≡ c.is_closing)
    by None = (refl, refl)
    by (Some p) = (refl, refl)

unlooked : {looks : Bool} {At : Type 0} (c : Client) → Speaks looks At c → Speaks false At c
unlooked c h = record { unsaid = λ is. absurd (cc is); passed = h.passed; begun = h.begun; bare = h.bare }

body_speaks : {looks : Bool} {At : Type 0} (n : ℕ) (q r : Reply) (c : Client) → c.stage ≡ Answering r → q.decision ≡ r.decision → q.has_begun ≡ r.has_begun → Speaks looks At c → Speaks false At (said_of_body n q c)
body_speaks {looks} {At} n q r c stood decision begun h = by (is_passing q.decision)
  where
    taken : Passed → Passed
    taken p = record p { pipe = without_first n p.pipe }

    d : Client
    d = record c { stage = Answering q }

    by : (t : Bool) → Speaks false At (elim t as (λ x. Client) [
      | true ↦ on_passed (λ p. record p { pipe = without_first n p.pipe }) (record c { stage = Answering q })
      | false ↦ record c { stage = Answering (record q { at = q.at + n }) }
    ])
    by true = let w = piped_stage (λ p. record p { pipe = without_first n p.pipe }) d in restaged _ c q r stood w.0 decision begun (λ runs. sym w.1 ∙ runs) (piped_some (λ p. record p { pipe = without_first n p.pipe }) d) h
    by false = restaged _ c (record q { at = q.at + n }) r stood refl decision begun (λ runs. runs) refl h

of_speaks : {looks : Bool} {At : Type 0} (n : ℕ) (r : Reply) (c : Client) → c.stage ≡ Answering r → Speaks looks At c → Speaks false At (said_of n r c)
of_speaks {looks} {At} n r c stood h = by (nat_le n (length r.head_left))
  where
    by : (t : Bool) → Speaks false At (elim t as (λ x. Client) [
      | true ↦ record c { stage = Answering (record r { head_left = drop n r.head_left }) }
      | false ↦ said_of_body (n - length r.head_left) (record r { head_left = [] }) c
    ])
    by true = restaged _ c (record r { head_left = drop n r.head_left }) r stood refl refl refl (λ runs. runs) refl h
    by false = body_speaks (n - length r.head_left) (record r { head_left = [] }) r c stood refl refl h

pub said_speaks : {looks : Bool} {At : Type 0} (n : ℕ) (c : Client) → Speaks looks At c → Speaks false At (said_by n c)
said_speaks {looks} {At} n c h = by (is_empty c.interim_left)
  where
    by_reply : (stage : Stage) → c.stage ≡ stage
        → Speaks false At (elim (elim stage as (λ x. Option Reply) [ Undecided ↦ None | Waiting ↦ None | Passing ↦ None | Answering r ↦ Some r ]) as (λ y. Client) [ None ↦ c | Some r ↦ said_of n r c ])
    by_reply Undecided at = unlooked c h
    by_reply Waiting at = unlooked c h
    by_reply Passing at = unlooked c h
    by_reply (Answering r) at = of_speaks n r c at h

    by : (t : Bool) → Speaks false At (elim t as (λ x. Client) [ false ↦ record c { interim_left = drop n c.interim_left } | true ↦ elim (reply_of c) as (λ y. Client) [ None ↦ c | Some r ↦ said_of n r c ] ])
    by true = by_reply c.stage refl
    by false = record { unsaid = λ is. absurd (cc is); passed = h.passed; begun = h.begun; bare = h.bare }

-- ---- a state

pub record Facts (looks : Bool) (clients : List Client) (phase : Phase) (owed : Owed) : Type 0 where
  pub rise : AreRising (map client_number clients)
  pub all : (c : Client) → IsIn c clients → Speaks looks (AtEvent phase owed) c
  -- and before an opening is over nobody is there
  pub nobody : is_early phase ≡ true → clients ≡ []

abbrev pub FactsOf : Bool → State → Type 0
FactsOf looks s = Facts looks s.clients s.phase s.owed

pub data Spoken (looks : Bool) (s : State) : Type 0 where
  spoken : FactsOf looks s → Spoken looks s

pub facts_of : {looks : Bool} {s : State} → Spoken looks s → FactsOf looks s
facts_of (spoken facts) = facts

pub none_in : {A : Type 0} (num : A → ℕ) (xs ys : List A) → map num xs ≡ map num ys → ys ≡ [] → xs ≡ []
none_in num [] ys alike none = refl
none_in num (x ∷ xs) ys alike none = let both : num x ∷ map num xs ≡ [] = alike ∙ ap (map num) none in absurd (cc both)

pub spoken_on : {looks : Bool} (o s : State) → Keeps true o s → Spoken looks o → Spoken looks s
spoken_on o s q h = spoken (record {
  rise = subst AreRising (sym (keeps_of q).numbers) (facts_of h).rise;
  all = λ d i. let w = (keeps_of q).clients_from d i in speaks_on d w.was (keeps_of q).event w.is ((facts_of h).all w.was w.there);
  nobody = λ early. none_in client_number s.clients o.clients (keeps_of q).numbers ((facts_of h).nobody ((keeps_of q).early early));
})

-- where something comes, an event is handled
pub spoken_got : {looks : Bool} (o s : State) → AtEvent o.phase o.owed → Keeps false o s → Spoken looks o → Spoken false s
spoken_got o s at q h = spoken (record {
  rise = subst AreRising (sym (keeps_of q).numbers) (facts_of h).rise;
  all = λ d i. let w = (keeps_of q).clients_from d i in speaks_got d w.was at w.is ((facts_of h).all w.was w.there);
  nobody = λ early. none_in client_number s.clients o.clients (keeps_of q).numbers ((facts_of h).nobody ((keeps_of q).early early));
})

-- those that this is made of, and all others
pub changed_spoken : {looks : Bool} (after_looks : Bool) (s : State) (p : Client → Bool) (f : Client → Client) → ((c : Client) → (f c).number ≡ c.number)
    → ((c : Client) → IsIn c s.clients → p c ≡ true → Speaks looks (AtEvent s.phase s.owed) c → Speaks after_looks (AtEvent s.phase s.owed) (f c)) → (after_looks ≡ true → looks ≡ true) → Spoken looks s
    → Spoken after_looks (record s { clients = change p f s.clients })
changed_spoken {looks} after_looks s p f number kept less h = spoken (record {
  rise = rise_change client_number p f number s.clients (facts_of h).rise;
  all = λ d i. by d (in_change p f d s.clients i);
  nobody = λ early. ap (λ cs. change p f cs) ((facts_of h).nobody early);
})
  where
    fewer : (c : Client) → Speaks looks (AtEvent s.phase s.owed) c → Speaks after_looks (AtEvent s.phase s.owed) c
    fewer c k = record { unsaid = λ is. k.unsaid (less is); passed = k.passed; begun = k.begun; bare = k.bare }

    by : (d : Client) → Changed p f s.clients d → Speaks after_looks (AtEvent s.phase s.owed) d
    by d (same i isnt) = fewer d ((facts_of h).all d i)
    by d (other c i hit eq) = subst (λ (x : Client). Speaks after_looks (AtEvent s.phase s.owed) x) (sym eq) (kept c i hit ((facts_of h).all c i))

pub filtered_spoken : {looks : Bool} (s : State) (p : Client → Bool) → Spoken looks s → Spoken looks (record s { clients = filter p s.clients })
filtered_spoken s p h = spoken (record { rise = rise_filter client_number p s.clients (facts_of h).rise; all = λ c i. (facts_of h).all c (in_filter p c s.clients i).0; nobody = λ early. ap (λ cs. filter p cs) ((facts_of h).nobody early) })
