mod SendLemmas
mod StaffLemmas
mod WantLemmas
