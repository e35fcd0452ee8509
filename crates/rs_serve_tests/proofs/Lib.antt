mod StaffLemmas
