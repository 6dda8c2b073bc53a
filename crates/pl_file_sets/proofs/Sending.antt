-- That a set of files may go into another thread.
use denote.Param.Send.{IsSend, IsSync, sendable, view_send}
use denote.Param.SendFields.{declared_send}
use Rattle.pl_base.proofs.list.List.TheSendSync as list_s
use Rattle.pl_base.proofs.shared.Shared.TheSendSync as shared_s
use Rattle.pl_base.specs.contracts.list.List as List
use Rattle.pl_base.specs.contracts.shared.Shared as Shared
use Rattle.pl_requests.proofs.settings.FileText.TheSendSync as file_text_s
use Rattle.pl_requests.specs.contracts.settings.FileText as FileText
use Rattle.pl_file_sets.proofs.trie.Trie.TheLaws.TheKnot as trie_k
use Rattle.pl_file_sets.specs.contracts.shared_files.SharedFiles as SharedFiles
use Rattle.pl_file_sets.specs.contracts.shared_files.SharedFiles.TheInside as inside
use Rattle.pl_file_sets.specs.contracts.trie.Trie as Trie

file_send : IsSend (Shared.the_row FileText.the_row)
file_send = shared_s.the_send FileText.the_row file_text_s.the_send file_text_s.the_sync

file_sync : IsSync (Shared.the_row FileText.the_row)
file_sync = shared_s.the_sync FileText.the_row file_text_s.the_send file_text_s.the_sync

files_send : IsSend (List.the_field (Shared.the_row FileText.the_row)).row
files_send = let a = file_send in search (list_s.the_send, sendable) depth 20

files_sync : IsSync (List.the_field (Shared.the_row FileText.the_row)).row
files_sync = let a = file_sync in search (list_s.the_sync, sendable) depth 20

trie_send : IsSend Trie.the_row
trie_send =
    let a = trie_k.both_send-Trie files_send files_sync shared_s.the_send shared_s.the_sync in search
    sendable depth 20

pub shared_files_send : IsSend SharedFiles.the_row
shared_files_send = view_send _ _ _ _ _ (declared_send inside.the_type (trie_send, tt))
