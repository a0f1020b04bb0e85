use Rattle.std.proofs.Common.{length}
use Rattle.lx_token.proofs.kinds.longest_token.Goals as goal

pub returns-clause-found : goal.returns-clause-found
returns-clause-found c =
    rw (
      c.longer.ensures.found,
      c.after_sign.ensures.rest,
      c.longer-found-10.ensures.found,
      c.after_code.ensures.rest,
      c.longer-found-9.ensures.found,
      c.after_bounds.ensures.rest,
      c.longer-found-8.ensures.found,
      c.after_tag-2.ensures.rest,
      c.longer-found-7.ensures.found,
      c.after_tag.ensures.rest,
      c.longer-found-6.ensures.found,
      c.after_quoted-3.ensures.rest,
      c.longer-found-5.ensures.found,
      c.after_quoted-2.ensures.rest,
      c.longer-found-4.ensures.found,
      c.after_quoted.ensures.rest,
      c.longer-found-3.ensures.found,
      c.after_number.ensures.rest,
      c.longer-found-2.ensures.found,
      c.after_config.ensures.rest,
      c.longer-found.ensures.found,
      c.after_name.ensures.rest,
    )

pub returns-clause-shorter : goal.returns-clause-shorter
returns-clause-shorter c =
    let n = length c.args.text.now in
    let found-1 = c.longer-found.ensures.within n tt c.after_name.ensures.shorter in
    let found-2 = c.longer-found-2.ensures.within n found-1 c.after_config.ensures.shorter in
    let found-3 = c.longer-found-3.ensures.within n found-2 c.after_number.ensures.shorter in
    let found-4 = c.longer-found-4.ensures.within n found-3 c.after_quoted.ensures.shorter in
    let found-5 = c.longer-found-5.ensures.within n found-4 c.after_quoted-2.ensures.shorter in
    let found-6 = c.longer-found-6.ensures.within n found-5 c.after_quoted-3.ensures.shorter in
    let found-7 = c.longer-found-7.ensures.within n found-6 c.after_tag.ensures.shorter in
    let found-8 = c.longer-found-8.ensures.within n found-7 c.after_tag-2.ensures.shorter in
    let found-9 = c.longer-found-9.ensures.within n found-8 c.after_bounds.ensures.shorter in
    let found-10 = c.longer-found-10.ensures.within n found-9 c.after_code.ensures.shorter in
    c.longer.ensures.within n found-10 c.after_sign.ensures.shorter
