use Rattle.pp_reply.proofs.Parts.{page_parts}
use Rattle.pp_reply.proofs.page.put_page.Goals as goal

pub returns : goal.returns
returns c =
    page_parts c.args.out.now.items c.put_page_head.new.out.items c.put_page_body.new.out.items c.title_of_page-title.result.now _ c.is_kept.result _ c.args.head_asked
    c.title_of_page-title.ensures.value c.is_kept.ensures c.put_page_head.ensures.head c.put_page_body.ensures
