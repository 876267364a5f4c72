-- What the tables and the check answer is the build's answer; only a plan that the check accepts is written.
-- Assumes nothing.
use Rattle.std.proofs.Common.{◌≡◌, ◌∙◌, sym, ap, ap₂, arith, rules, length, Ok, Err}
use Rattle.std.proofs.lemmas.Result.{err_from_is_err_and}
use lib.ListN.{length-replicate}
use Rattle.basics.specs.Limits.{first_edition}
use Rattle.basics.specs.Put.{put}
use Rattle.joblist.specs.Fields.{slots}
use Rattle.joblist.proofs.Accepted.{list_length}
use Rattle.verdict.specs.Answer.{check_of}
use Rattle.planfile.specs.Plan.{plan_of}
use Rattle.lotable.specs.TableLo.{Tables, before, tables_at, clash_in, clash_of, table_lo}
use Rattle.hitable.specs.TableHi.{hi_at, table_hi}
use Rattle.merge.specs.declared.BuildWhy.TheVariants.{LowLate, HighLate}
use Rattle.merge.specs.Build.{built_lo, built_hi, merge_plan}
use Rattle.merge.proofs.Laws.{late_why, late_made, thi_made, begins_are, pair_late, pair_clash, refused_pair, refused_check, built}
use Rattle.merge.proofs.Tables.build.Goals as goal

pub returns-in_err-and : goal.returns-in_err-and
returns-in_err-and c =
    let s = c.args.list.bytes.now in
    let i = c.requires.idle in
    let a : c.map_err-low_late.result ≡ late_why LowLate c.late_table.result = search rules in
    let b : c.map_err-high_late.result ≡ late_why HighLate c.late_table-2.result = search rules in
    let l = late_made s _ _ _ _ _ _ _ i.low i.high c.late_table.ensures.0 c.late_table-2.ensures.0 a b c.and.ensures in
    let p = err_from_is_err_and c.from_residual.result c.from_residual.ensures.1 in
    rw (p.1, p.2) (refused_pair first_edition s c.args.out.now c.requires.accepted c.requires.room _ (pair_late s _ (sym l ∙ c.in_err-and.was)))

pub returns-in_err-table_lo : goal.returns-in_err-table_lo
unfolding clash_of
returns-in_err-table_lo c =
    let s = c.args.list.bytes.now in
    let i = c.requires.idle in
    let a : c.map_err-low_late.result ≡ late_why LowLate c.late_table.result = search rules in
    let b : c.map_err-high_late.result ≡ late_why HighLate c.late_table-2.result = search rules in
    let l = late_made s _ _ _ _ _ _ _ i.low i.high c.late_table.ensures.0 c.late_table-2.ensures.0 a b c.and.ensures in
    let h = thi_made s _ _ _ i.high c.late_table-2.ensures.1 c.keep_first.ensures in
    let t = begins_are s _ _ _ _ i.low c.late_table.ensures.1 (c.copy_table.ensures ∙ h) i.lo in
    let e = pair_clash s (sym l ∙ c.in_ok-and.was) (Err _) (sym (ap (clash_in s) t) ∙ sym c.table_lo.ensures.0 ∙ c.in_err-table_lo.was) in
    let p = err_from_is_err_and c.from_residual-in_err-table_lo.result c.from_residual-in_err-table_lo.ensures.1 in
    rw (p.1, p.2) (refused_pair first_edition s c.args.out.now c.requires.accepted c.requires.room _ e)

pub returns-in_default : goal.returns-in_default
unfolding clash_of table_lo built_hi table_hi
returns-in_default c =
    let s = c.args.list.bytes.now in
    let i = c.requires.idle in
    let a : c.map_err-low_late.result ≡ late_why LowLate c.late_table.result = search rules in
    let b : c.map_err-high_late.result ≡ late_why HighLate c.late_table-2.result = search rules in
    let l = late_made s _ _ _ _ _ _ _ i.low i.high c.late_table.ensures.0 c.late_table-2.ensures.0 a b c.and.ensures in
    let h = thi_made s _ _ _ i.high c.late_table-2.ensures.1 c.keep_first.ensures in
    let t = begins_are s _ _ _ _ i.low c.late_table.ensures.1 (c.copy_table.ensures ∙ h) i.lo in
    let made = pair_clash s (sym l ∙ c.in_ok-and.was) (Ok tt) (sym (ap (clash_in s) t) ∙ sym c.table_lo.ensures.0 ∙ c.in_ok-table_lo.was) in
    let k = c.table_lo.ensures.1 ∙ ap₂ (tables_at s) t (ap (before (slots s)) c.in_ok-table_lo.was) in
    let lo : c.table_lo.new.out ≡ built_lo s = ap (λ (x : Tables). x.lo) k in
    let hi : c.table_hi.new.out ≡ built_hi s = c.table_hi.ensures ∙ (λ z. (hi_at s (lo z) (h z) (i.hi z) (slots s)).table) in
    let v = c.check-v.ensures ∙ ap₂ (check_of first_edition s) lo hi in
    let g = c.in_default.is in
    rw g (refused_check first_edition s c.args.out.now c.requires.accepted c.requires.room made _ (sym v ∙ g))

pub put_plan-requires : goal.put_plan-requires
put_plan-requires c =
    let a = c.args in
    let p = c.requires in
    let low : length a.self.low.now ≡ slots a.list.bytes.now = ap length p.idle.low ∙ length-replicate _ _ in
    let left : length a.self.left.now ≡ slots a.list.bytes.now = ap length p.idle.left ∙ length-replicate _ _ in
    let lo : length a.self.lo.now ≡ slots a.list.bytes.now = ap length p.idle.lo ∙ length-replicate _ _ in
    let hi : length a.self.hi.now ≡ slots a.list.bytes.now = ap length p.idle.hi ∙ length-replicate _ _ in
    let list = list_length first_edition a.list.bytes.now p.accepted in
    omega (arith, p.room)

pub returns : goal.returns
unfolding clash_of table_lo built_hi table_hi merge_plan
returns c =
    let s = c.args.list.bytes.now in
    let i = c.requires.idle in
    let a : c.map_err-low_late.result ≡ late_why LowLate c.late_table.result = search rules in
    let b : c.map_err-high_late.result ≡ late_why HighLate c.late_table-2.result = search rules in
    let l = late_made s _ _ _ _ _ _ _ i.low i.high c.late_table.ensures.0 c.late_table-2.ensures.0 a b c.and.ensures in
    let h = thi_made s _ _ _ i.high c.late_table-2.ensures.1 c.keep_first.ensures in
    let t = begins_are s _ _ _ _ i.low c.late_table.ensures.1 (c.copy_table.ensures ∙ h) i.lo in
    let made = pair_clash s (sym l ∙ c.in_ok-and.was) (Ok tt) (sym (ap (clash_in s) t) ∙ sym c.table_lo.ensures.0 ∙ c.in_ok-table_lo.was) in
    let k = c.table_lo.ensures.1 ∙ ap₂ (tables_at s) t (ap (before (slots s)) c.in_ok-table_lo.was) in
    let lo : c.table_lo.new.out ≡ built_lo s = ap (λ (x : Tables). x.lo) k in
    let hi : c.table_hi.new.out ≡ built_hi s = c.table_hi.ensures ∙ (λ z. (hi_at s (lo z) (h z) (i.hi z) (slots s)).table) in
    let v = c.check-v.ensures ∙ ap₂ (check_of first_edition s) lo hi in
    let r = built first_edition s c.args.out.now c.requires.accepted c.requires.room made (sym v ∙ c.in-Ok.is) in
    let w = c.put_plan.ensures in
    let e = ap₂ (plan_of s) lo hi in
    (ap Ok (w.0 ∙ ap length e) ∙ r.0, w.1 ∙ ap (put c.args.out.now 0) e ∙ r.1)
