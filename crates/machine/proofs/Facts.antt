-- What a yes of row 37's test says, and what booking and moving on keep.
-- Assumes nothing.
use Rattle.std.proofs.Common.{◌≡◌, ℕ, ◌+◌, ◌*◌, ◌<◌, ◌≤◌, Bool, true, false, ◌||◌, ltb, List, sym, refl, ap, ◌∙◌, arith, ltb-true, lt-ltb, ne_eqb, leb-true}
use Rattle.basics.specs.Choice.{pick}
use Rattle.basics.specs.Below.{all_of}
use Rattle.basics.specs.Limits.{Limits}
use Rattle.basics.proofs.Choice.{pick_both}
use Rattle.basics.proofs.Tests.{and_left, and_right}
use Rattle.basics.proofs.Below.{every, all_at}
use Rattle.basics.specs.Marks.{idle}
use Rattle.machine.specs.declared.head.Head.{Head}
use Rattle.parts.specs.declared.plan.Plan.{Plan}
use Rattle.parts.specs.Marks.{is_set}
use Rattle.parts.specs.Plan.{from_of, lo_at, hi_at}
use Rattle.machine.specs.Run.{Run, with_head, with_slot}
use Rattle.parts.specs.Scan.{sizes_ok, byte_ok, slot_ok, tables_ok, edges_ok, units_ok, named_in}
use Rattle.machine.specs.Machine.{plan_ok, run_ok, sound_on, book_job, book_of, open_frame_of, move_of}

-- a byte that is no idle mark is a job's number
pub job_below : (n x : ℕ) → byte_ok n x ≡ true → (x ≡ idle → ⊥) → x < n
unfolding byte_ok
job_below n x h ne = ltb-true _ _ (ap (λ b. b || ltb x n) (sym (ne_eqb _ _ ne)) ∙ h)

module _ (lim : Limits) where
  -- the ranges give the room in the arrays
  pub sizes_facts : (len n m : ℕ) → sizes_ok lim len n m ≡ true → (len ≤ lim.slots) × (n ≤ lim.jobs) × (m ≤ lim.edges) × (1 ≤ n)
  unfolding sizes_ok
  sizes_facts len n m h =
      let z = every _ h in
      (leb-true _ _ z.1.0, leb-true _ _ z.1.1.1.0, leb-true _ _ z.1.1.1.1.0, leb-true _ _ z.1.1.0)

  pub record PlanFacts (p : Plan) : Type 0 where
    pub len_low : 1 ≤ p.counts.len
    pub len_top : p.counts.len ≤ lim.slots
    pub n_low : 1 ≤ p.counts.n
    pub n_top : p.counts.n ≤ lim.jobs
    pub m_top : p.counts.m ≤ lim.edges
    pub lo_fine : (t : ℕ) → t < p.counts.len → byte_ok p.counts.n (lo_at p.tables t) ≡ true
    pub hi_fine : (t : ℕ) → t < p.counts.len → byte_ok p.counts.n (hi_at lim p.tables t) ≡ true
    pub from_at : (e : ℕ) → e < p.counts.m → from_of p.edges e < p.counts.n

  pub plan_facts : (p : Plan) → plan_ok lim p ≡ true → PlanFacts p
  unfolding plan_ok sizes_ok tables_ok slot_ok edges_ok
  plan_facts p h =
      let w = every _ h in
      let z = every _ w.0 in
      record {
        len_low = leb-true _ _ z.0;
        len_top = leb-true _ _ z.1.0;
        n_low = leb-true _ _ z.1.1.0;
        n_top = leb-true _ _ z.1.1.1.0;
        m_top = leb-true _ _ z.1.1.1.1.0;
        lo_fine = λ t l. (every _ (all_at _ _ t w.1.0 l)).0;
        hi_fine = λ t l. (every _ (all_at _ _ t w.1.0 l)).1.0;
        from_at = λ e l. ltb-true _ _ (all_at _ _ (2 * e) w.1.1.0 (omega arith));
      }

  module _ (p : Plan) (h : Head) (units : List ℕ) where
    pub record StateFacts : Type 0 where
      pub plan_fine : plan_ok lim p ≡ true
      pub plan : PlanFacts p
      pub slot_low : h.slot < p.counts.len
      pub ordered_ok : byte_ok p.counts.n h.ordered ≡ true
      pub units_fine : units_ok lim units p.counts.n ≡ true

    pub state_facts : sound_on lim p h units ≡ true → StateFacts
    unfolding sound_on run_ok
    state_facts v =
        let a = and_left (plan_ok lim p) (run_ok lim p.counts h units) v in
        let e = every _ (and_right (plan_ok lim p) (run_ok lim p.counts h units) v) in
        record { plan_fine = a; plan = plan_facts p a; slot_low = ltb-true _ _ e.0; ordered_ok = e.1.0; units_fine = e.1.1.0 }

    pub state_sound : plan_ok lim p ≡ true → h.slot < p.counts.len → byte_ok p.counts.n h.ordered ≡ true → units_ok lim units p.counts.n ≡ true → sound_on lim p h units ≡ true
    unfolding sound_on run_ok all_of
    state_sound a b c d = rw (a, lt-ltb _ _ b, c, d)

    -- the job ordered last is below the most jobs
    pub ordered_room : sound_on lim p h units ≡ true → (h.ordered ≡ idle → ⊥) → h.ordered < lim.jobs
    ordered_room v ne =
        let f = state_facts v in
        let l = job_below _ _ f.ordered_ok ne in
        omega (arith, f.plan.n_top)

  module _ (p : Plan) (f : PlanFacts p) where
    -- the named job is idle or a job's number
    pub named_ok : (slot high : ℕ) → slot < p.counts.len → byte_ok p.counts.n (named_in lim p.tables slot high) ≡ true
    unfolding named_in
    named_ok slot high l = pick_both (λ x. byte_ok p.counts.n x ≡ true) (is_set high) _ _ (f.hi_fine _ l) (f.lo_fine _ l)

    -- and below the most jobs, as is each edge's start
    pub named_room : (slot high : ℕ) → slot < p.counts.len → (x : ℕ) → x ≡ named_in lim p.tables slot high → (x ≡ idle → ⊥) → x < lim.jobs
    named_room slot high l x q ne =
        let b = job_below p.counts.n x (rw (q) (named_ok slot high l)) ne in
        omega (arith, f.n_top)

    pub edge_room : (e : ℕ) → e < p.counts.m → from_of p.edges e < lim.jobs
    edge_room e l = omega (arith, f.from_at e l, f.n_top)

  -- booking leaves the slot
  pub book_slot : (jobs : List ℕ) (r : Run) (e : Bool) → (book_of lim jobs r e).head.slot ≡ r.head.slot
  unfolding book_of book_job
  book_slot jobs r e = pick_both (λ (x : Run). x.head.slot ≡ r.head.slot) _ _ _ refl refl

  -- moving on leaves the slot below L
  pub move_slot : (len : ℕ) (r : Run) (t : ℕ) → 1 ≤ len → (move_of lim len r t).head.slot < len
  unfolding move_of pick
  move_slot len r t l = by_test (ltb (r.head.slot + 1) len) refl
    where
      by_test : (b : Bool) → ltb (r.head.slot + 1) len ≡ b
          → (pick b (with_head r (with_slot r.head (r.head.slot + 1))) (open_frame_of lim r)).head.slot < len
      by_test true e = ltb-true _ _ e
      by_test false e = l

  -- what booking and moving on hand to the order: the slot, and the named job
  module _ (p : Plan) (r b : Run) (e : Bool) (v : sound_on lim p r.head r.units ≡ true) (qb : b ≡ book_of lim p.jobs r e) where
    abbrev known : StateFacts p r.head r.units
    known = state_facts p r.head r.units v

    pub booked_room : b.head.slot < lim.slots
    booked_room = rw (qb, book_slot p.jobs r e) (omega (arith, known.slot_low, known.plan.len_top))

    module _ (m : Run) (tick : ℕ) (qm : m ≡ move_of lim p.counts.len b tick) where
      moved_low : m.head.slot < p.counts.len
      moved_low = rw (qm) (move_slot p.counts.len b tick known.plan.len_low)

      pub moved_room : m.head.slot < lim.slots
      moved_room = omega (arith, moved_low, known.plan.len_top)

      pub order_room : (x : ℕ) → x ≡ named_in lim p.tables m.head.slot m.head.high → (x ≡ idle → ⊥) → x < lim.jobs
      order_room x q = named_room p known.plan _ _ moved_low x q

  -- and the edges of a sound plan
  pub edges_room : (p : Plan) (h : Head) (units : List ℕ) → sound_on lim p h units ≡ true
      → (p.counts.m ≤ lim.edges) × ((e : ℕ) → e < p.counts.m → from_of p.edges e < lim.jobs)
  edges_room p h units v = let f = (state_facts p h units v).plan in (f.m_top, edge_room p f)
