-- Data of a response come where they are still to come: no more than are, and none behind the end of the version that they are of.
use Rattle.std.proofs.Common.{◌≡◌, ◌≤◌, refl, sym, subst, ap, ◌∙◌, ℕ, ◌+◌, true, drop, find, length, [], ◌∷◌, ◌++◌, Option, Some, None, inl, inr, le_trans}
use Rattle.pp_bodies_law.specs.Bytes.{FindsPipe, IsToJoin}
use Rattle.pp_flow.specs.Entries.{is_number}
use Rattle.pp_flow.specs.declared.entry.Entry.{Entry}
use Rattle.pp_framing.specs.Rules.{body_of}
use Rattle.pp_framing.specs.declared.body.BodyRule.{BodyRule}
use Rattle.pp_framing.specs.declared.body.BodyRule.TheVariants.{Empty}
use Rattle.pp_law.specs.Lists.{Bytes}
use Rattle.pp_law.specs.Stages.{bound_of}
use Rattle.pp_law.specs.State.{State, Answer, Bound, Conn, Exchange, Instance as Known}
use Rattle.pp_law.specs.Table.{instance, is_instance}
use Rattle.pp_laws.proofs.Lists.{in_find}
use Rattle.pp_laws.proofs.Sound.{Brings, Fitting, Sound, facts_of as sound_facts}
use Rattle.pp_laws.proofs.Tests.{same_number}
use Rattle.pp_laws.specs.Runs.{IsIn}
use Rattle.pp_laws_bounds.proofs.Happenings.{from_now}
use Rattle.pp_laws_brought.proofs.Fits.{added_fits}
use Rattle.pp_laws_brought.proofs.View.{Fits, Plain, lines_of}
use Rattle.pp_origins.specs.Gots.{Both}
use Rattle.pp_reads_law.specs.Data.{MayGo}
use Rattle.pp_reads_law.specs.Pieces.{data_in}
use Rattle.pp_seats_law.specs.Exchanges.{Binding}
use Rattle.pp_states_law.specs.Charges.{IsFor}
use Rattle.pp_comes_law.proofs.KeptRows.{AreWhole, ends_so}
use Rattle.pp_comes_law.proofs.RoomReads.{HasChunks}

none_empty : (a : Answer) (bytes : Bytes) → a.rule ≡ Empty → data_in a bytes ≡ []
none_empty a bytes is =
    ap (λ (r : BodyRule). drop (length (body_of r a.raw).payload) (body_of r (a.raw ++ bytes)).payload) is

none_some : (b : ℕ) (bytes : Bytes) → [] ≡ b ∷ bytes → ⊥
none_some b bytes both = cc both

pub data_go : (x : Both) (s : State) (k : Conn) (e : Exchange) (a : Answer) (bytes : Bytes) → Sound from_now s → Plain s.conns s.exchanges → IsIn k s.conns → IsIn e s.exchanges → IsIn e.number k.line → k.answer ≡ Some a → AreWhole s → HasChunks x s a e bytes → IsFor s e (FindsPipe (data_in a bytes)) → MayGo x.state s e (data_in a bytes)
data_go x s k e a bytes so brought here there lined has whole chunks room = by (data_in a bytes) refl
  where
    of_answer : (b : Bound) (y : Known) (n : ℕ) (more : Bytes) → data_in a bytes ≡ n ∷ more → bound_of e ≡ Some b → instance s b.instance ≡ Some y → b.to ≤ y.version.length
    of_answer b y n more some is found = at one.answer one.is one.fits
      where
        one : Brings s.instances k e b
        one = (sound_facts so).brings k e b here there lined is (λ off. cc off)

        fits : Fits a b.next b.to
        fits = lines_of s.conns s.exchanges brought k e a b here there lined has is

        among : IsIn y s.instances × (is_instance b.instance y ≡ true)
        among = in_find (is_instance b.instance) y s.instances found

        by_fit : Fitting a b y → b.to ≤ y.version.length
        by_fit (inl fit) = fits.ends y.version fit.0
        by_fit (inr empty) = absurd (none_some n more (sym (none_empty a bytes empty) ∙ some))

        at : (d : Answer) → k.answer ≡ Some d → ((z : Known) → IsIn z s.instances → z.id ≡ b.instance → Fitting d b z) → b.to ≤ y.version.length
        at d said all =
            let both : Some d ≡ Some a = sym said ∙ has in
            let same : d ≡ a = cc both in
            by_fit (subst (λ (c : Answer). Fitting c b y) same (all y among.0 (same_number y.id b.instance among.1)))

    fit : (b : Bound) → bound_of e ≡ Some b → b.next + length (data_in a bytes) ≤ b.to
    fit b is = added_fits a b.next b.to bytes (lines_of s.conns s.exchanges brought k e a b here there lined has is)

    joins : (n : ℕ) (more : Bytes) → data_in a bytes ≡ n ∷ more → (z : Entry) → find (is_number e.number) x.state.flow.placed ≡ Some z → (o : Option Binding) (u : Option Bound) → z.exchange.bound ≡ o → bound_of e ≡ u → IsToJoin o u x.state.cache s (data_in a bytes)
    joins n more some z placed None u at is = tt
    joins n more some z placed (Some to) None at is = tt
    joins n more some z placed (Some to) (Some b) at is = (
      fit b is,
      λ y found. record {
        kept = ends_so s y whole (in_find (is_instance b.instance) y s.instances found).0;
        within = le_trans (fit b is) (of_answer b y n more some is found);
        room = chunks n more some z to b y placed at is found (le_trans (fit b is) (of_answer b y n more some is found));
      },
    )

    by : (bs : Bytes) → data_in a bytes ≡ bs → MayGo x.state s e bs
    by [] none = tt
    by (n ∷ more) some = record {
      joins = λ z placed. subst (λ (bs : Bytes). IsToJoin z.exchange.bound (bound_of e) x.state.cache s bs) some (joins n more some z placed z.exchange.bound (bound_of e) refl refl);
      fits = subst (λ (bs : Bytes). IsFor s e (FindsPipe bs)) some room;
    }
