-- A reply by a row, or by what is passed, keeps it, and so does each decision.
use Rattle.std.proofs.Common.{◌≡◌, refl, ℕ, ◌<◌, Bool, true, false, not, ◌==◌, ◌&&◌, ◌||◌, bytes_eq, max, min, nat_le, nat_lt, List, filter, Option, Some, None, sym, subst, ap, ◌∙◌, le_refl, arith}
use Rattle.std.proofs.lemmas.Bool.Decides.{nat_tests}
use Rattle.pp_plan.specs.Need.{is_near}
use Rattle.pp_target.specs.Key.{text_of}
use Rattle.pp_valid.specs.declared.version.Version.{Version}
use Rattle.pp_world.specs.declared.note.Decision.TheVariants.{Refuse, Hit, Part, Head, NotModified, Unsatisfiable, Relay, Validate, Fetch, Pass}
use Rattle.pp_world.specs.declared.note.Decision.{Decision}
use Rattle.pp_law.specs.Closing.{forsake, is_of, is_over, leave, left_alone}
use Rattle.pp_law.specs.Connections.{is_client, on_client}
use Rattle.pp_law.specs.Deciding.{answering_with, decided, decided_by, enter_row, follow, follow_row, follow_with, relay, reply_by, serves}
use Rattle.pp_law.specs.Lists.{Bytes, change, is_this}
use Rattle.pp_law.specs.Requests.{key_in}
use Rattle.pp_law.specs.Stages.{bound_in, bound_of, filled_of, is_headed, is_passing, is_pending, passed_of}
use Rattle.pp_law.specs.State.{State, Aim, Through, Own, Filling, Awaited, Body, Pending, Joining, Relaying, Dropping, Bound, Client, Exchange, Instance, Reply}
use Rattle.pp_law.specs.Table.{asks_for, is_row_of, is_soon, row}
use Rattle.pp_laws.specs.Runs.{IsIn}
use Rattle.pp_laws.proofs.Lists.{Changed, in_change, in_filter, in_find, other, same}
use Rattle.pp_laws.proofs.Tests.{first_holds, number_same, same_number, second_holds}
use Rattle.pp_laws_turn.proofs.Cases.{each_of, each_so}
use Rattle.pp_laws_turn.proofs.Clients.{enter_row-keeps}
use Rattle.pp_laws_turn.proofs.Rows.{swept-keeps}
use Rattle.pp_laws_turn.proofs.View.{Holds, KeepsRows, View, facts_of, holds, view}
use Rattle.pp_laws_coming.proofs.Plans.{is_by_row}
use Rattle.pp_laws_coming.proofs.Alone.{all_told, leave_come}
use Rattle.pp_laws_coming.proofs.Asked.{ask_origin-comes, refuse-comes}
use Rattle.pp_laws_coming.proofs.Clients.{on_client-comes}
use Rattle.pp_laws_coming.proofs.Facts.{Coming, IsBoundTo, IsTold, Settled, rows}
use Rattle.pp_laws_coming.proofs.Stays.{client_but}

pub some_to : (a b : ℕ) → nat_lt a b ≡ true → nat_lt 0 b ≡ true
some_to a b is = grind (arith, nat_tests)

-- what serves a follower, and fills no hole, is headed
and_false : (b : Bool) → (b && false) ≡ false
and_false true = refl
and_false false = refl

asks_none : (x : Instance) (at : ℕ) (e : Exchange) → filled_of e ≡ None → asks_for x at e ≡ false
asks_none x at e fills = by e.aim fills
  where
    asks_by : Aim → Bool
    asks_by a = not (is_headed e) && (elim a as (λ t. Bool) [ Through ↦ false | Own ↦ false | Filling v from to ↦ bytes_eq (text_of e.key) x.key && bytes_eq v.tag x.version.tag && nat_le from at && nat_lt at to && is_near from at ])

    filled_by : Aim → Option Version
    filled_by a = elim a as (λ t. Option Version) [ Through ↦ None | Own ↦ None | Filling v from to ↦ Some v ]

    by : (a : Aim) → filled_by a ≡ None → asks_by a ≡ false
    by Through none = and_false (not (is_headed e))
    by Own none = and_false (not (is_headed e))
    by (Filling v from to) none = absurd (cc none)

-- and its body belongs to that row
serves_bound : (x : Instance) (r : Reply) (e : Exchange) → serves x r e ≡ true → filled_of e ≡ None → (is_headed e ≡ true) × IsBoundTo x.id e
serves_bound x r e is fills = by e.body refl (second_holds (nat_lt r.at r.to) (serves_by (bound_of e)) is)
  where
    serves_by : Option Bound → Bool
    serves_by o = elim o as (λ t. Bool) [ Some b ↦ (b.instance == x.id) && nat_lt (max b.next r.at) (min b.to r.to) && is_soon b r.at | None ↦ asks_for x r.at e ]

    never : (body : Body) → e.body ≡ body → bound_in body ≡ None → serves_by (bound_of e) ≡ true → ⊥
    never body at none served =
        let off : serves_by (bound_of e) ≡ false = ap (λ (b : Body). serves_by (bound_in b)) at ∙ ap serves_by none ∙ asks_none x r.at e fills in
        let both : true ≡ false = sym served ∙ off in
        cc both

    by : (body : Body) → e.body ≡ body → serves_by (bound_of e) ≡ true → (is_headed e ≡ true) × IsBoundTo x.id e
    by Pending some at = absurd (never Pending some refl at)
    by Relaying some at = absurd (never Relaying some refl at)
    by Dropping some at = absurd (never Dropping some refl at)
    by (Joining b) some at =
        let its : serves_by (Some b) ≡ true = sym (ap (λ (body : Body). serves_by (bound_in body)) some) ∙ at in (
          ap (λ (body : Body). not (is_pending body)) some,
          record {
            to = b;
            is = ap bound_in some;
            instance = same_number b.instance x.id (first_holds (b.instance == x.id) (nat_lt (max b.next r.at) (min b.to r.to)) (first_holds ((b.instance == x.id) && nat_lt (max b.next r.at) (min b.to r.to)) (is_soon b r.at) its));
          },
        )

-- nothing is passed to it
abbrev pub HasNothing : Client → State → Type 0
HasNothing c s = (d : Client) → IsIn d s.clients → d.number ≡ c.number → passed_of d ≡ None

follow_with-comes : {late : Bool} → (c : Client) (r : Reply) (x : Instance) (s : State) → r.source ≡ Some x.id → IsIn x s.instances → HasNothing c s → Holds (Coming late) s → Holds (Coming late) (follow_with c r x s)
unfolding follow_with leave forsake on_client
follow_with-comes c r x s source row_there nothing h =
    swept-keeps rows _
    (holds (all_told c.number clients (filter (λ e. not (is_over e)) (change test left_alone s.exchanges)) s.next_exchange s.instances s.next_instance
    (λ e d i j asks is. told e d (in_change test left_alone e s.exchanges (in_filter (λ y. not (is_over y)) e (change test left_alone s.exchanges) i).0) asks is (in_change (is_client c.number) (answering_with r) d s.clients j))
    (leave_come (Some c.number) test clients s.exchanges s.next_exchange s.instances s.next_instance (client_but c.number (answering_with r) s.clients s.exchanges s.next_exchange s.instances s.next_instance (λ d. refl) settled (facts_of h)))))
  where
    test : Exchange → Bool
    test e = is_of c.number e && not (serves x r e)

    clients : List Client
    clients = change (is_client c.number) (answering_with r) s.clients

    served : (a b : Bool) → (a && not b) ≡ false → a ≡ true → b ≡ true
    served true true off is = refl
    served true false off is = absurd (cc off)
    served false b off is = absurd (cc is)

    lasts : (a b d : Bool) → d ≡ true → (a || b || d) ≡ true
    lasts true b d is = refl
    lasts false true d is = refl
    lasts false false d is = is

    -- it follows that row
    its_row : (id : ℕ) → r.source ≡ Some id → x.id ≡ id
    its_row id is = let both : Some x.id ≡ Some id = sym source ∙ is in cc both

    settled : (d : Client) → IsIn d s.clients → d.number ≡ c.number → Settled s.instances s.next_instance (answering_with r d)
    settled d i is = record { given = λ id at. subst (λ n. n < s.next_instance) (its_row id at) ((facts_of h).rowed x row_there); bare = λ y j follows. nothing d i is; unasked = λ off. nothing d i is }

    told : (e : Exchange) (d : Client) → Changed test left_alone s.exchanges e → e.asker ≡ Some c.number → d.number ≡ c.number → Changed (is_client c.number) (answering_with r) s.clients d → IsTold s.instances e d
    told e d at asks is (same j isnt) = let both : true ≡ false = sym (number_same c.number) ∙ ap (λ (n : ℕ). n == c.number) (sym is) ∙ isnt in absurd (cc both)
    told e d (other y i hit eq) asks is (other b j on its) = let both : None ≡ Some c.number = sym (ap (λ (z : Exchange). z.asker) eq) ∙ asks in absurd (cc both)
    told e d (same i isnt) asks is (other b j on its) =
        let serving : serves x r e ≡ true = served (is_of c.number e) (serves x r e) isnt (ap (is_this c.number) asks ∙ number_same c.number) in
        let before : IsTold s.instances e b = (facts_of h).told e c.number b i j asks (same_number b.number c.number on) (λ none. cc none) in
        subst (λ (z : Client). IsTold s.instances e z) (sym its) (record {
          waits = λ fills off. (let both : true ≡ false = sym (serves_bound x r e serving fills).0 ∙ off in absurd (cc both));
          untold = before.untold;
          coming = before.coming;
          stands = lasts r.has_begun (is_passing r.decision) (nat_lt 0 r.to) (some_to r.at r.to (first_holds (nat_lt r.at r.to) _ serving));
          fills = λ v is. refl;
          left = before.left;
          key = before.key;
          bound = λ fills y k follows. subst (λ n. IsBoundTo n e) (its_row y.id follows.source) (serves_bound x r e serving fills).1;
        })

follow_row-comes : {late : Bool} → (c : Client) (d : Decision) (key : Bytes) (s : State) → HasNothing c s → Holds (Coming late) s → Holds (Coming late) (follow_row c d key s)
unfolding follow_row
follow_row-comes c d key s nothing h = each_so (row s key) (λ none. h) (λ x found. follow_with-comes c (reply_by d (Some x.id)) x s refl (in_find (is_row_of key) x s.instances found).0 nothing h)

follow-comes : {late : Bool} → (c : Client) (d : Decision) (s : State) → HasNothing c s → Holds (Coming late) s → Holds (Coming late) (follow c d s)
unfolding follow
follow-comes c d s nothing h = each_of (key_in c.front) h (λ key. follow_row-comes c d (text_of key) s nothing h)

-- it was brought something
abbrev pub IsBrought : Client → State → Type 0
IsBrought c s = (d : Client) → IsIn d s.clients → d.number ≡ c.number → d.brought ≡ Awaited → ⊥

relay-comes : {late : Bool} → (c : Client) (s : State) → IsBrought c s → Holds (Coming late) s → Holds (Coming late) (relay c s)
unfolding relay
relay-comes c s brought h =
    swept-keeps rows _
    (on_client-comes c.number (answering_with (reply_by Relay None)) s (λ d. refl) (λ d i hit. record {
      stays = record { number = refl; source = λ id is. absurd (cc is); front = λ key is. is; untold = λ none. none; stands = λ is. refl };
      waits = λ w. absurd (brought d i (same_number d.number c.number hit) w.brought);
      coming = λ is. is;
      answers = λ off. refl;
      left = λ key is. le_refl d.body_left;
    }) h)

-- what it rests on: the client is there, and was brought what the decision is by
pub record Rests (c : Client) (d : Decision) (s : State) : Type 0 where
  pub there : IsIn c s.clients
  pub brought : d ≡ Relay → IsBrought c s
  pub nothing : is_by_row d ≡ true → HasNothing c s

decided_by-comes : {late : Bool} → (c : Client) (d : Decision) (s : State) → Rests c d s → Holds (Coming late) s → Holds (Coming late) (decided_by c d s)
unfolding decided_by
decided_by-comes c (Refuse status) s rests h = refuse-comes c status s h
decided_by-comes c Pass s rests h = ask_origin-comes c Pass s rests.there h
decided_by-comes c Fetch s rests h = ask_origin-comes c Fetch s rests.there h
decided_by-comes c Validate s rests h = ask_origin-comes c Validate s rests.there h
decided_by-comes c Relay s rests h = relay-comes c s (rests.brought refl) h
decided_by-comes c (Hit from to) s rests h = follow-comes c (Hit from to) s (rests.nothing refl) h
decided_by-comes c (Part from to) s rests h = follow-comes c (Part from to) s (rests.nothing refl) h
decided_by-comes c Head s rests h = follow-comes c Head s (rests.nothing refl) h
decided_by-comes c NotModified s rests h = follow-comes c NotModified s (rests.nothing refl) h
decided_by-comes c Unsatisfiable s rests h = follow-comes c Unsatisfiable s (rests.nothing refl) h

abbrev WithClients : Bool → List Client → View → Type 0
WithClients late cs v = (v.clients ≡ cs) × Coming late v

with_rows : (late : Bool) (cs : List Client) → KeepsRows (WithClients late cs)
with_rows late cs xs next v from w = (w.0, rows xs next v from w.1)

pub decided-comes : {late : Bool} → (c : Client) (d : Decision) (s : State) → Rests c d s → Holds (Coming late) s → Holds (Coming late) (decided c d s)
unfolding decided
decided-comes {late} c d s rests h =
    let entered : WithClients late s.clients (view (enter_row c d s)) = facts_of (enter_row-keeps {P = WithClients late s.clients} (with_rows late s.clients) c d s (holds (refl, facts_of h))) in
    decided_by-comes c d (enter_row c d s)
    (record {
      there = subst (λ (cs : List Client). IsIn c cs) (sym entered.0) rests.there;
      brought = λ is e i number. rests.brought is e (subst (λ (cs : List Client). IsIn e cs) entered.0 i) number;
      nothing = λ is e i number. rests.nothing is e (subst (λ (cs : List Client). IsIn e cs) entered.0 i) number;
    }) (holds entered.1)
