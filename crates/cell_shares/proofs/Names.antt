-- The names of the logic that the walks use.
pub use Rattle.std.proofs.Common.{◌≡◌, ℕ, zero, suc, ◌+◌, ◌*◌, ◌^◌, ◌<◌, ◌≤◌, List, [], ◌∷◌, ◌++◌, length, refl, sym, ap, subst, ◌∙◌, T, lit<, w64, arith}
pub use mathlib.Core.Bool.{Bool, true, false}
pub use lib.ListN.{get_or, replicate, take, drop, length-replicate, get_or-replicate}
pub use seplogic.Ra.Ura.{Ura}
pub use base.Fraction.{full_share}
pub use base.Logic.{SProp, ent, sep, emp, never, id⊢, via, emp∗, fst∗, snd∗}
pub use base.Stored.{Gv}
pub use base.Fml.{Lft, GName, Share, Fml, ftrue, fsep, flt, flft, feq, fat, froom, fobs, fauth, fbor, fobor}
pub use mir.Syntax.{Fn, Ty, a_type, named, ty_ptr, ty_int, ty_struct, tcons, tnil}
pub use mir.Val.{Val, vunit, vint, vptr, vstruct, vcons, vnil, of_list, has_ty, WT}
pub use mir.MapTy.{inst_fn}
pub use prog.Wp.{WpFn, Env}
pub use types.Logic.{Logic, sem}
pub use types.SemTy.{Body}
pub use types.Kit.{
  Goal,
  Soaks,
  Step,
  step,
  Seq,
  Item,
  ‵,
  raw,
  ◌⊛◌,
  some,
  given,
  later,
  at_ret,
  ◌$◌,
  ◌∵◌,
  !,
  qed,
  by,
  done,
  move,
  keep,
  drop as leave,
  use0,
  use1,
  use2,
  use3,
  split,
  split3,
  join,
  fsplit,
  fsplit3,
  fjoin,
  fjoin3,
  fpick,
  fpack,
  feq_i,
  feq_l,
  flt_i,
  flt_l,
  pick,
  learn,
  await,
  rewrite,
  suffices,
  frame,
}
pub use types.Part.{agg, sub, whole, look_in}
pub use types.Run.{enter, of_opd, addr, load, look, init, stop, fld, bin, size_lit, unit_lit, no_more, and_then, assigns_last, first, blocks, exec, returns}
pub use types.ByLocal.{alloc_all, pass_all, free_all, look_at, get, get_in, through, sets, sets_last, lands_last, is, env}
pub use contract.BorrowLft.{◌⊑◌}
pub use contract.Monad.{fact, fact_i, fact_use}
pub use contract.Running.{Running, MachineTables, tables, tables_of}
pub use denote.RattleType.{RattleType, Valss, owns}
pub use denote.Builtin.{usize, RefOf}
pub use denote.Exit.{no, yes}
pub use denote.Laws.{Are, Ises, Is, showss, owns_show, shows}
pub use denote.Memory.{cell_at, part_at, hidden_shr, mem}
pub use denote.Param.{param, layout, layouts}
pub use denote.RawPtr.{Ptr, RawPtr, block_ptr, null_ptr, ptr_val, lies_at, in_block, in_a_block, ◌+ₚ◌}
pub use denote.Shadow.{pure_i}
pub use denote.Signature.{plain, types_at, type_at}
pub use denote.Steps.{nothing, heard, opens, closes}
pub use denote.Struct.Owning.{Owning, shape}
pub use denote.Struct.Struct.{Struct, within}
pub use denote.Struct.Tuple.{Tuple}
pub use denote.Triple.Clauses.{Clauses, Ended, closing}
pub use denote.Triple.Entry.{alive, on_entry}
pub use denote.Triple.Spec.{Meets, triple_of}
pub use denote.Triple.Table.{entered}
pub use denote.Triple.Walked.{Stays, AllGo, walk_of, walk_Meets, ends_at, says, stay_dropped, stay_ref, Goes-dropped, Goes-ref}
pub use sound.WpLaws.{WpFn-mono}
